-- The statements of specs/Demands.antt, each under its name in small letters. Assumes nothing.
use Rattle.std.proofs.Common.{None, Option, Some}
use Rattle.std.proofs.Common.{Ok, Result}
use Rattle.field.specs.Question.{Verdict}
use Rattle.field.proofs.Base.{◌≡◌, refl, sym, ap, ap₂, ◌∙◌, subst, ◌≢◌, ◌⊎◌, inl, inr, Bool, true, false, cond, ◌||◌, false≢true, List, [], ℕ, zero}
use Rattle.field.proofs.Base.{suc, ◌+◌, ◌-◌, ◌/◌, ◌<◌, min, arith, eqb, length, take, drop, replicate, length-take, length-drop, take_at}
use Rattle.field.specs.Question.{Outcome, accepted, refused, refusal, ask, after}
use Rattle.field.specs.declared.Question.{Question}
use Rattle.field.specs.declared.Question.TheVariants.{Width, Length, ErasureCount, Padding}
use Rattle.code.specs.Word.{places, longest}
use Rattle.code.specs.Near.{radius}
use Rattle.code.specs.Call.{repair, within_of, within_written}
use Rattle.code.specs.Demands.{Nearest}
use Rattle.code.proofs.Demands.{accepts, refuses-seven, refuses-fourteen, same-restored, repair-tells}
use Rattle.code.proofs.Members.{same_length}
use Rattle.code.proofs.calls.Passing.{passes-radius}
use Rattle.card.specs.declared.Totals.{Totals}
use Rattle.card.specs.declared.Progress.{Progress}
use Rattle.card.specs.Record.{erasure_bytes, record_size, width_of, word_of, erasures_of, has_width, few_in, padded_in, asked_in, record_asked, clear_record}
use Rattle.card.specs.Record.{record_within_of, record_within_written, RestoresRecordWithin, reach_of, record_of, record_written, RestoresRecord}
use Rattle.card.specs.Slots.{record_count, record_at, is_blank, over_first}
use Rattle.card.specs.Card.{is_accepted, passes, fine, check_of}
use Rattle.card.specs.Listing.{counted, slot_further, most_records, listed_part, start}
use Rattle.card.specs.Demands.{RecordPasses, RecordPassesWithin, HoldsWord, RecordReachDecodes, RecordDecodes, RecordAccepts}
use Rattle.card.specs.Demands.{RecordRefusesSeven, RecordUnchanged, SameRecord, PieceRefused, FewPlaces, BlankRefused, ShortNotBlank}
use Rattle.card.specs.Demands.{LowestRefused, NoneRefused, CheckKept, OneNear, CardDecodes, EmptyPasses, PieceFails, SlotsListed, SumMost}
use Rattle.card.specs.Demands.{ListedInParts, ListedShort, ListedLong, SlotsInParts}
use Rattle.card.proofs.Layouts.{asked}
use Rattle.card.proofs.Recording.{short-refused}
use Rattle.card.proofs.Again.{accepted-means, written-clear, within-stays, refused-stays}
use Rattle.card.proofs.Blank.{short-not-blank as never-blank, blank-refused as blank-slot, fine-means}
use Rattle.card.proofs.Checking.{first_some, first-none, checks}
use Rattle.card.proofs.Bounds.{few-places as at_most_two, sum-most as sum-within}
use Rattle.card.proofs.Folding as Folding
use Rattle.card.proofs.Lines as Lines

-- ---- demand 3 at a record

-- a question of the record itself has another number
own-step : (n : ℕ) (b : Bool) (q : Question) (v : Verdict) (o : Outcome) → refusal q ≢ n → (after v o ≡ refused n → v ≡ (Ok tt))
    → after (ask b q v) o ≡ refused n → ask b q v ≡ (Ok tt)
own-step n true q v o d h e = h e
own-step n false q v o d h e = absurd (d (cc))

own-passed : (r : List ℕ) (o : Outcome) (n : ℕ) → 2 ≢ n → 1 ≢ n → 3 ≢ n → 8 ≢ n → after (record_asked r) o ≡ refused n → record_asked r ≡ (Ok tt)
unfolding asked_in
own-passed r o n a b c d =
    own-step n (eqb (length r) record_size) Length _ o a
    (own-step n (has_width r) Width _ o b
    (own-step n (few_in erasure_bytes r) ErasureCount _ o c
    (own-step n (padded_in erasure_bytes r) Padding (Ok tt) o d (λ e. refl))))

-- a record without erasures tells the word that it holds
holds-tells : (m : ℕ) (c d r : List ℕ) → HoldsWord m c r → HoldsWord m d r → c ≡ d
holds-tells m c d r C D =
    sym (take_at c (replicate (longest - length c) 0) (places m) C.size)
    ∙ ap (λ (x : List ℕ). take (places m) (drop 7 x)) (sym C.content ∙ D.content)
    ∙ take_at d (replicate (longest - length d) 0) (places m) D.size

-- r is lent with a reach
module _ (r : List ℕ) (reach : ℕ) where
  abbrev m : ℕ
  m = width_of r

  -- what restoring the word answers
  abbrev inner : Outcome
  inner = within_of m (word_of r) (erasures_of r) reach

  on : record_asked r ≡ (Ok tt) → record_within_of r reach ≡ inner
  unfolding record_within_of
  on p = ap (λ (v : Verdict). after v inner) p

  accepted-on : (k : ℕ) → record_within_of r reach ≡ accepted k → (record_asked r ≡ (Ok tt)) × (inner ≡ accepted k)
  unfolding record_within_of
  accepted-on k e = accepted-means (record_asked r) inner k e

  late-on : (n : ℕ) → 2 ≢ n → 1 ≢ n → 3 ≢ n → 8 ≢ n → record_within_of r reach ≡ refused n → record_asked r ≡ (Ok tt)
  unfolding record_within_of
  late-on n a b c d e = own-passed r inner n a b c d e

  accepts-to : (k : ℕ) (c : List ℕ) → record_within_of r reach ≡ accepted k → HoldsWord m c (record_within_written r reach)
      → RecordPassesWithin r reach × Nearest m (word_of r) (erasures_of r) reach c k
  accepts-to k c e H =
      let p = accepted-on k e in
      let found = within_written m (word_of r) (erasures_of r) reach in
      let A = (accepts m (word_of r) (erasures_of r) reach k found).0 (p.1, refl) in
      let F : HoldsWord m found (record_within_written r reach) =
      record { size = A.1.near.codeword.size; content = written-clear r reach k e } in (
        record { own = p.0; word = A.0 },
        subst (λ (d : List ℕ). Nearest m (word_of r) (erasures_of r) reach d k) (holds-tells m found c (record_within_written r reach) F H) A.1,
      )

  accepts-from : (k : ℕ) (c : List ℕ) → RecordPassesWithin r reach → Nearest m (word_of r) (erasures_of r) reach c k
      → (record_within_of r reach ≡ accepted k) × HoldsWord m c (record_within_written r reach)
  accepts-from k c P N =
      let A = (accepts m (word_of r) (erasures_of r) reach k c).1 (P.word, N) in
      let e = on P.own ∙ A.0 in
      (e, record { size = N.near.codeword.size; content = written-clear r reach k e ∙ ap (clear_record m) A.1 })

pub record-reach-decodes : RecordReachDecodes
record-reach-decodes r reach a u R =
    record {
      restored = λ k c. (
        λ h. accepts-to r reach k c (sym R.answer ∙ h.0) (subst (HoldsWord (width_of r) c) R.content h.1),
        λ h. (let x = accepts-from r reach k c h.0 h.1 in (R.answer ∙ x.0, subst (HoldsWord (width_of r) c) (sym R.content) x.1)),
      );
      none-near = (
        λ e.
            let f = sym R.answer ∙ e in
            let own = late-on r reach 7 (λ z. omega arith) (λ z. omega arith) (λ z. omega arith) (λ z. omega arith) f in
            let x = (refuses-seven (width_of r) (word_of r) (erasures_of r) reach).0 (sym (on r reach own) ∙ f) in
            (record { own = own; word = x.0 }, x.1),
        λ h. R.answer ∙ on r reach h.0.own ∙ (refuses-seven (width_of r) (word_of r) (erasures_of r) reach).1 (h.0.word, h.1),
      );
      several-near = (
        λ e.
            let f = sym R.answer ∙ e in
            let own = late-on r reach 14 (λ z. omega arith) (λ z. omega arith) (λ z. omega arith) (λ z. omega arith) f in
            let x = (refuses-fourteen (width_of r) (word_of r) (erasures_of r) reach).0 (sym (on r reach own) ∙ f) in
            (record { own = own; word = x.0 }, x.1),
        λ h. R.answer ∙ on r reach h.0.own ∙ (refuses-fourteen (width_of r) (word_of r) (erasures_of r) reach).1 (h.0.word, h.1),
      );
      refused-unchanged = λ n e. R.content ∙ within-stays r reach n (sym R.answer ∙ e);
    }

-- who names no reach has named the longest
longest-named : (r : List ℕ) (a : Result ℕ Question) (u : List ℕ) → RestoresRecord r a u → RestoresRecordWithin r (reach_of r) a u
unfolding record_of record_written
longest-named r a u R = record { answer = R.answer; content = R.content }

pub record-decodes : RecordDecodes
record-decodes r a u R =
    let D = record-reach-decodes r (reach_of r) a u (longest-named r a u R) in
    record {
      restored = λ k c. (
        λ h. (let x = (D.restored k c).0 h in (plain x.0, x.1)),
        λ h. (D.restored k c).1 (named h.0, h.1),
      );
      none-near = (λ e. (let x = D.none-near.0 e in (plain x.0, x.1)), λ h. D.none-near.1 (named h.0, h.1));
      several-near = (λ e. (let x = D.several-near.0 e in (plain x.0, x.1)), λ h. D.several-near.1 (named h.0, h.1));
      refused-unchanged = D.refused-unchanged;
    }
  where
    plain : RecordPassesWithin r (reach_of r) → RecordPasses r
    plain = λ p. record { own = p.own; word = sym (passes-radius (width_of r) (word_of r) (erasures_of r)) ∙ p.word }

    named : RecordPasses r → RecordPassesWithin r (reach_of r)
    named = λ p. record { own = p.own; word = passes-radius (width_of r) (word_of r) (erasures_of r) ∙ p.word }

pub record-accepts : RecordAccepts
record-accepts r a u R = (record-decodes r a u R).restored

pub record-refuses-seven : RecordRefusesSeven
record-refuses-seven r a u R = (record-decodes r a u R).none-near

pub record-unchanged : RecordUnchanged
record-unchanged r a u R = (record-decodes r a u R).refused-unchanged

-- both records are whole, so that their words are of one length
same-words : (r r' : List ℕ) → record_asked r ≡ (Ok tt) → record_asked r' ≡ (Ok tt) → width_of r ≡ width_of r' → length (word_of r) ≡ length (word_of r')
same-words r r' p p' w =
    let n : length r ≡ length r' = (asked r p).size ∙ sym (asked r' p').size in
    simp (length-take, length-drop) (rw (w, n))

pub same-record : SameRecord
same-record r r' a a' u u' R R' p p' w s o = (
  repair-tells a a' (answers ∙ S.0 ∙ sym answers'),
  λ k e.
      let f : inner r (reach_of r) ≡ accepted k = sym answers ∙ e in
      let x : record_within_of r (reach_of r) ≡ accepted k = on r (reach_of r) p ∙ f in
      let y : record_within_of r' (reach_of r') ≡ accepted k = on r' (reach_of r') p' ∙ sym S.0 ∙ f in
      N.content ∙ written-clear r (reach_of r) k x ∙ same-clear (S.1 k f) ∙ sym (written-clear r' (reach_of r') k y) ∙ sym N'.content,
)
  where
    N : RestoresRecordWithin r (reach_of r) a u
    N = longest-named r a u R

    N' : RestoresRecordWithin r' (reach_of r') a' u'
    N' = longest-named r' a' u' R'

    answers : repair a ≡ inner r (reach_of r)
    answers = N.answer ∙ on r (reach_of r) p

    answers' : repair a' ≡ inner r' (reach_of r')
    answers' = N'.answer ∙ on r' (reach_of r') p'

    S : (inner r (reach_of r) ≡ inner r' (reach_of r'))
        × ((k : ℕ) → inner r (reach_of r) ≡ accepted k
        → within_written (width_of r) (word_of r) (erasures_of r) (reach_of r) ≡ within_written (width_of r') (word_of r') (erasures_of r') (reach_of r'))
    S =
        let T = same-restored (width_of r) (word_of r) (word_of r') (erasures_of r) (erasures_of r') (reach_of r) (same-words r r' p p' w) s o in
        let q : reach_of r ≡ reach_of r' = ap₂ radius w (same_length (erasures_of r) (erasures_of r') s) in (
          T.0 ∙ ap₂ (λ (n x : ℕ). within_of n (word_of r') (erasures_of r') x) w q,
          λ k e. T.1 k e ∙ ap₂ (λ (n x : ℕ). within_written n (word_of r') (erasures_of r') x) w q,
        )

    same-clear : {c d : List ℕ} → c ≡ d → clear_record (width_of r) c ≡ clear_record (width_of r') d
    same-clear e = ap₂ clear_record w e

pub piece-refused : PieceRefused
piece-refused r a u R n =
    let o : record_of r ≡ refused 2 = sym (short-refused r n) in
    (R.answer ∙ o, R.content ∙ refused-stays r 2 o)

pub few-places : FewPlaces
few-places r a u R k e = at_most_two r k (sym R.answer ∙ e)

-- ---- blank slots

pub blank-refused : BlankRefused
blank-refused r a u R h = let b = blank-slot r h in (R.answer ∙ b.0, R.content ∙ b.1)

pub short-not-blank : ShortNotBlank
short-not-blank = never-blank

-- ---- the card check

-- an answer is given back by what it says
check-tells : (x y : Option ℕ) → check_of x ≡ check_of y → x ≡ y
check-tells None None e = refl
check-tells None (Some k) e = let z : ◌≡◌ {A = ℕ} 0 1 = cc in absurd (omega arith)
check-tells (Some j) None e = let z : ◌≡◌ {A = ℕ} 0 1 = cc in absurd (omega arith)
check-tells (Some j) (Some k) e = ap Some (cc)

pub lowest-refused : LowestRefused
lowest-refused card x C k = (
  λ e. (first_some card k).0 (sym C ∙ ap check_of e),
  λ B. check-tells x (Some k) (C ∙ (first_some card k).1 B),
)

pub none-refused : NoneRefused
none-refused card x C = (λ e. (first-none card).0 (sym C ∙ ap check_of e), λ N. check-tells x None (C ∙ (first-none card).1 N))

pub check-kept : CheckKept
check-kept card x C = rw C (checks card)

-- an accepted record has one near codeword, and a record with one is accepted
near_of : (r : List ℕ) (k : ℕ) → record_of r ≡ accepted k → OneNear r
unfolding record_of
near_of r k e =
    let p = accepted-on r (reach_of r) k e in
    let found = within_written (width_of r) (word_of r) (erasures_of r) (reach_of r) in
    let A = (accepts (width_of r) (word_of r) (erasures_of r) (reach_of r) k found).0 (p.1, refl) in
    record {
      passes = record { own = p.0; word = sym (passes-radius (width_of r) (word_of r) (erasures_of r)) ∙ A.0 };
      codeword = found;
      changed = k;
      nearest = A.1;
    }

of-near : (r : List ℕ) (O : OneNear r) → record_of r ≡ accepted O.changed
unfolding record_of
of-near r O =
    let P : RecordPassesWithin r (reach_of r) =
    record { own = O.passes.own; word = passes-radius (width_of r) (word_of r) (erasures_of r) ∙ O.passes.word } in
    (accepts-from r (reach_of r) O.changed O.codeword P O.nearest).0

pub card-decodes : CardDecodes
card-decodes card x C = (
  λ e i h. one-near (record_at card i) (fine-means (record_at card i) ((none-refused card x C).0 e i h)),
  λ f. (none-refused card x C).1 (λ i h. near-fine (record_at card i) (f i h)),
)
  where
    one-near : (r : List ℕ) → (is_blank r ≡ true) ⊎ ((k : ℕ) × (record_of r ≡ accepted k)) → (is_blank r ≡ true) ⊎ OneNear r
    one-near r (inl b) = inl b
    one-near r (inr (k, e)) = inr (near_of r k e)

    near-fine : (r : List ℕ) → (is_blank r ≡ true) ⊎ OneNear r → fine r ≡ true
    near-fine r (inl b) = ap (λ (t : Bool). t || passes r) b
    near-fine r (inr O) = go (is_blank r)
      where
        go : (t : Bool) → (t || passes r) ≡ true
        go true = refl
        go false = ap is_accepted (of-near r O)

pub empty-passes : EmptyPasses
empty-passes x C = (none-refused [] x C).1 (λ i h. absurd (omega arith))

pub piece-fails : PieceFails
piece-fails card x C n e = go (fine-means piece ((none-refused card x C).0 e last (omega arith)))
  where
    last : ℕ
    last = length card / record_size

    piece : List ℕ
    piece = record_at card last

    short : length piece < record_size
    short = simp (length-take, length-drop) (omega arith)

    go : (is_blank piece ≡ true) ⊎ ((k : ℕ) × (record_of piece ≡ accepted k)) → ⊥
    go (inl b) = false≢true (sym (never-blank piece short) ∙ b)
    go (inr (k, a)) =
        let r : refused 2 ≡ record_of piece = short-refused piece (λ z. omega (arith, short)) in
        let z : ◌≡◌ {A = ℕ} 0 1 = cc in omega arith

-- ---- the listing

-- n slots of a part: how far the listing has come, and the blank ones among them
module _ (part : List ℕ) where
  abbrev comes : ℕ → Progress
  comes n = over_first erasure_bytes slot_further start part n

  abbrev blanks : ℕ → ℕ
  blanks n = over_first erasure_bytes (λ k slot. cond (is_blank slot) (k + 1) k) 0 part n

  next-is : (n : ℕ) → (comes n).next ≡ 1 + n
  unfolding over_first
  next-is zero = refl
  next-is (suc n) = omega (arith, next-is n)

  all_in : (n : ℕ) → (comes n).totals.accepted + (comes n).totals.refused + blanks n ≡ n
  unfolding over_first
  all_in zero = refl
  all_in (suc n) = go (comes n).totals (blanks n) (is_blank (record_at part n)) (record_of (record_at part n)) (all_in n)
    where
      go : (t : Totals) (k : ℕ) (b : Bool) (o : Outcome) → t.accepted + t.refused + k ≡ n
          → (cond b t (counted t o)).accepted + (cond b t (counted t o)).refused + cond b (k + 1) k ≡ suc n
      go t k true o e = omega arith
      go t k false (accepted x) e = omega arith
      go t k false (refused x) e = omega arith

listed-count : (card : List ℕ) → record_count (length (listed_part card)) ≡ min most_records (record_count (length card))
listed-count card = simp length-take (omega arith)

pub slots-listed : SlotsListed
slots-listed card =
    let n = record_count (length (listed_part card)) in
    let e = listed-count card in
    (next-is (listed_part card) n ∙ ap (λ (k : ℕ). 1 + k) e, all_in (listed_part card) n ∙ e)

pub sum-most : SumMost
sum-most = sum-within

pub listed-in-parts : ListedInParts
listed-in-parts = Lines.listing-batches

pub listed-short : ListedShort
listed-short = Lines.listing-short

pub listed-long : ListedLong
listed-long = Lines.listing-long

pub slots-in-parts : SlotsInParts
slots-in-parts A step a b j whole s = Folding.in_parts step a b j whole s
