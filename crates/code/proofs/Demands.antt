-- The demands of specs/Demands.antt, each under its name in small letters. Assumes nothing.
use Rattle.std.proofs.Common.{Ok, Err, Result}
use Rattle.field.specs.Question.{Verdict}
use Rattle.field.specs.declared.Question.{Question}
use Rattle.field.proofs.Base.{◌≡◌, refl, sym, ap, ◌∙◌, subst, Bool, true, false, cond, true≢false, List, [], ◌∷◌, map, ℕ, ◌+◌, ◌-◌, ◌/◌, arith}
use Rattle.field.proofs.Base.{length}
use mathlib.Core.Logic.{◌↔◌}
use Rattle.field.specs.Question.{Outcome, accepted, refused, after, is_width}
use Rattle.field.proofs.Demands.{numbers-tell}
use Rattle.field.proofs.Widths.{field_of}
use Rattle.field.proofs.Evaluation.{five-cong}
use Rattle.code.specs.Word.{places, at, syndrome, Codeword, encode, data_of}
use Rattle.code.specs.Erasure.{syndromes_without}
use Rattle.code.specs.Near.{distance, radius, Restoration, none, one, several, restoration}
use Rattle.code.specs.Call.{restore_asked, decided, repair, RestoresWithin}
use Rattle.code.specs.Call.{written, done, within_written, shown, all_zero, zero_syndromes, encode_of, encode_written, is_codeword_of}
use Rattle.code.specs.Demands.{Data, EncoderMakes, EncoderMade, ReadBack, TestsCodeword, Radii, NeverTwo, Accepts, RefusesSeven, RefusesFourteen, FewErasures}
use Rattle.code.specs.Demands.{AsEarlier, LongerReach, ShorterReach, RefusedUnchanged, FewChanged, SameRestored, MethodsAgree, GivesPlain}
use Rattle.code.specs.Demands.{GivesZero, SameGiven, DistanceOf, CodewordsApart, Passes, PassesWithin, Decoded, RestorerDecodes, ReachDecodes}
use Rattle.code.specs.Demands.{EarlierRefused, SameDecoded, SameWithin, RefusalNumbers, CodewordStays}
use Rattle.code.proofs.calls.Encoding.{encode-codeword, encode-data, codeword-data, codeword-encode}
use Rattle.code.proofs.calls.Passing.{encode-passes, read-passes, test-codeword, zero-syndromes, five-zero, given, within-passes, passes-radius}
use Rattle.code.proofs.Members.{same_length}
use Rattle.code.proofs.distance.Unique.{apart}
use Rattle.code.proofs.distance.DistanceLaw as DistanceLaw
use Rattle.code.proofs.restoring.Restoring as Restoring
use Rattle.code.proofs.restoring.Staying as Staying

-- ---- demand 2

-- the encoder writes its word for the data
encoded : (m : ℕ) → is_width m ≡ true → (ds out : List ℕ) → Data m ds → length out ≡ places m
    → (encode_of m ds out ≡ accepted 0) × (encode_written m ds out ≡ encode m ds)
encoded m h ds out D e =
    let p = encode-passes m h ds out D e in
    (ap done p, ap (λ (v : Verdict). written v out (encode m ds)) p)

pub encoder-makes : EncoderMakes
encoder-makes m h ds out D e =
    let w = encoded m h ds out D e in
    (w.0, subst (Codeword m) (sym w.1) (encode-codeword (field_of m h) D), ap data_of w.1 ∙ encode-data m ds)

pub encoder-made : EncoderMade
encoder-made m h w out C e =
    let v = encoded m h (data_of w) out (codeword-data (field_of m h) C) e in
    (v.0, v.1 ∙ codeword-encode (field_of m h) C)

pub read_back : ReadBack
read_back m h w out C e =
    let p = read-passes m h w out C e in
    (ap done p, ap (λ (v : Verdict). written v out (data_of w)) p)

-- a test that answers b, which is true just where C holds
judged : {C : Type 0} (b : Bool) (o : Outcome) → o ≡ accepted (cond b 1 0) → (b ≡ true) ↔ C
    → ((o ≡ accepted 1) ↔ C) × ((o ≡ accepted 0) ↔ (C → ⊥))
judged true o e i = (
  (λ h. i.0 refl, λ c. e),
  (λ h. absurd (let z : ◌≡◌ {A = ℕ} 0 1 = cc in omega arith), λ n. absurd (n (i.0 refl))),
)
judged false o e i = (
  (λ h. absurd (let z : ◌≡◌ {A = ℕ} 0 1 = cc in omega arith), λ c. absurd (true≢false (sym (i.1 c)))),
  (λ h c. true≢false (sym (i.1 c)), λ n. e),
)

pub tests-codeword : TestsCodeword
tests-codeword m w p = judged (zero_syndromes m w) (is_codeword_of m w)
    (ap (λ (v : Verdict). after v (accepted (cond (zero_syndromes m w) 1 0))) p)
    (test-codeword m w p, λ C. zero-syndromes m w C.zero-syndromes)

-- ---- the distance

pub distance-of : DistanceOf
distance-of = DistanceLaw.distance-of

pub codewords-apart : CodewordsApart
codewords-apart m h c d C D few = apart (field_of m h) (distance m) (distance-of m h) C D few

-- ---- demand 3

pub radii : Radii
radii m = (
  λ e. ap (λ (d : ℕ). map (λ (s : ℕ). (4 + d - 1 - s) / 2) (0 ∷ 1 ∷ 2 ∷ 3 ∷ 4 ∷ 5 ∷ [])) e,
  λ e. ap (λ (d : ℕ). map (λ (s : ℕ). (4 + d - 1 - s) / 2) (0 ∷ 1 ∷ 2 ∷ 3 ∷ [])) e,
)

pub never-two : NeverTwo
never-two = Restoring.never-two

pub accepts : Accepts
accepts = Restoring.accepts

pub refuses-seven : RefusesSeven
refuses-seven = Restoring.refuses-seven

pub refuses-fourteen : RefusesFourteen
refuses-fourteen = Restoring.refuses-fourteen

pub few-erasures : FewErasures
few-erasures = Restoring.few-erasures

pub as-earlier : AsEarlier
as-earlier = Restoring.as-earlier

pub refusal-numbers : RefusalNumbers
refusal-numbers = Staying.refusal-numbers

pub codeword-stays : CodewordStays
codeword-stays = Staying.codeword-stays

pub longer-reach : LongerReach
longer-reach = Restoring.longer-reach

pub shorter-reach : ShorterReach
shorter-reach = Restoring.shorter-reach

pub refused-unchanged : RefusedUnchanged
refused-unchanged = Restoring.refused-unchanged

pub few-changed : FewChanged
few-changed m w es reach k e =
    let a = (accepts m w es reach k (within_written m w es reach)).0 (e, refl) in
    (omega (arith, a.1.count, a.1.near.few), omega (arith, (within-passes m w es reach a.0).1))

pub same-restored : SameRestored
same-restored = Restoring.same-restored

pub methods-agree : MethodsAgree
methods-agree m w es reach a b u v A B = (A.answer ∙ sym B.answer, A.word ∙ sym B.word)

-- ---- demand 3 of the calls themselves

-- an answer is given back by its outcome: the refusal number tells the question
pub repair-tells : (a b : Result ℕ Question) → repair a ≡ repair b → a ≡ b
repair-tells (Ok k) (Ok l) e = ap Ok (cc)
repair-tells (Ok k) (Err p) e = let z : ◌≡◌ {A = ℕ} 0 1 = cc in absurd (omega arith)
repair-tells (Err q) (Ok l) e = let z : ◌≡◌ {A = ℕ} 0 1 = cc in absurd (omega arith)
repair-tells (Err q) (Err p) e = ap Err (numbers-tell q p (cc))

pub reach-decodes : ReachDecodes
reach-decodes m w es reach a u R =
    record {
      never-two = never-two m w es reach;
      restored = λ k c. (
        λ h. (accepts m w es reach k c).0 (sym R.answer ∙ h.0, sym R.word ∙ h.1),
        λ h. (let x = (accepts m w es reach k c).1 h in (R.answer ∙ x.0, R.word ∙ x.1)),
      );
      none-near = (λ e. (refuses-seven m w es reach).0 (sym R.answer ∙ e), λ h. R.answer ∙ (refuses-seven m w es reach).1 h);
      several-near = (λ e. (refuses-fourteen m w es reach).0 (sym R.answer ∙ e), λ h. R.answer ∙ (refuses-fourteen m w es reach).1 h);
      refused-unchanged = λ n e. R.word ∙ refused-unchanged m w es reach n (sym R.answer ∙ e);
    }

-- the questions may be said in another way
pub decoded-as : (P Q : Type 0) (m : ℕ) (w es : List ℕ) (reach : ℕ) (a : Result ℕ Question) (u : List ℕ) → (P → Q) → (Q → P) → Decoded P m w es reach a u
    → Decoded Q m w es reach a u
decoded-as P Q m w es reach a u f g D =
    record {
      never-two = λ q. D.never-two (g q);
      restored = λ k c. (
        λ h. (let x = (D.restored k c).0 h in (f x.0, x.1)),
        λ h. (D.restored k c).1 (g h.0, h.1),
      );
      none-near = (λ e. (let x = D.none-near.0 e in (f x.0, x.1)), λ h. D.none-near.1 (g h.0, h.1));
      several-near = (λ e. (let x = D.several-near.0 e in (f x.0, x.1)), λ h. D.several-near.1 (g h.0, h.1));
      refused-unchanged = D.refused-unchanged;
    }

pub restorer-decodes : RestorerDecodes
restorer-decodes m w es a u R =
    decoded-as (PassesWithin m w es (radius m (length es))) (Passes m w es) m w es (radius m (length es)) a u
    (λ p. sym (passes-radius m w es) ∙ p) (λ p. passes-radius m w es ∙ p) (reach-decodes m w es (radius m (length es)) a u R)

pub earlier-refused : EarlierRefused
earlier-refused m w es a u n R h k =
    let x = restoration m es w (radius m (length es)) in
    let asked : repair a ≡ after (restore_asked m w es) (decided m w es x) =
    R.answer ∙ ap (λ (v : Verdict). after v (decided m w es x)) (passes-radius m w es) in (
      λ e. (go (restore_asked m w es) x).0 (sym asked ∙ e),
      λ e. asked ∙ (go (restore_asked m w es) x).1 e,
    )
  where
    go : (v : Verdict) (x : Restoration) → (after v (decided m w es x) ≡ refused n) ↔ (done v ≡ refused n)
    go (Err q) x = (λ e. e, λ e. e)
    go (Ok tt) none = (λ e. absurd (h (cc)), λ e. absurd (let z : ◌≡◌ {A = ℕ} 0 1 = cc in omega arith))
    go (Ok tt) (one c) = (λ e. absurd (let z : ◌≡◌ {A = ℕ} 0 1 = cc in omega arith), λ e. absurd (let z : ◌≡◌ {A = ℕ} 0 1 = cc in omega arith))
    go (Ok tt) several = (λ e. absurd (k (cc)), λ e. absurd (let z : ◌≡◌ {A = ℕ} 0 1 = cc in omega arith))

pub same-within : SameWithin
same-within m w w' es es' reach a a' u u' R R' l s o =
    let S = same-restored m w w' es es' reach l s o in (
      repair-tells a a' (R.answer ∙ S.0 ∙ sym R'.answer),
      λ k e. R.word ∙ S.1 k (sym R.answer ∙ e) ∙ sym R'.word,
    )

pub same-decoded : SameDecoded
same-decoded m w w' es es' a a' u u' R R' l s o =
    same-within m w w' es es' (radius m (length es)) a a' u u' R
    (subst (λ (n : ℕ). RestoresWithin m w' es' (radius m n) a' u') (sym (same_length es es' s)) R') l s o

-- ---- the display of the syndromes

pub gives-plain : GivesPlain
gives-plain m w p = ap (λ (v : Verdict). shown v (syndromes_without m [] w)) p

pub gives-zero : GivesZero
gives-zero m w p = (
  λ e.
      let g = given m w [] p in
      record {
        size = g.lent.size;
        symbols = λ i h. g.lent.symbols i h refl;
        zero-syndromes = five-zero (syndrome m (at w)) (ap all_zero (sym (gives-plain m w p) ∙ e));
      },
  λ C. gives-plain m w p ∙ five-cong _ (λ k. 0) C.zero-syndromes,
)

pub same-given : SameGiven
same-given = Restoring.same-given
