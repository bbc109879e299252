-- From a search to the restored word: the word filled, its syndromes without the erasures, the count of changes, and the restorer's answer.
-- Assumes nothing.
use Rattle.std.proofs.Common.{Ok, Err, Result}
use Rattle.field.specs.Question.{Verdict}
use Rattle.field.proofs.Base.{◌≡◌, refl, sym, ap, ap₂, ◌∙◌, subst, ◌≢◌, Bool, true, false, cond, not, ◌||◌, List, [], ◌∷◌, ◌++◌, ℕ, zero, suc, ◌+◌, ◌-◌, ◌≤◌}
use Rattle.field.proofs.Base.{◌<◌, zero-le, dec_lt, arith, eq-eqb, eqb, length, get_or, set, take, drop, length-set, add-one, ℕ_discrete, ne_eqb}
use Rattle.field.proofs.Base.{drop-cons, get_or-take, length-take-le, take_all, get_or-set_same, get_or-set_other}
use mathlib.Core.Bool.{or-true, or-false}
use Rattle.std.specs.Int.{from_bool}
use native.Mathlib.Nat.{le_trans}
use lib.Seq.{take-suc}
use Rattle.field.specs.Field.{order}
use Rattle.field.specs.Question.{accepted, after, is_width, all_below}
use Rattle.field.specs.declared.Question.TheVariants.{Correctable, Unique}
use Rattle.field.specs.declared.Question.{Question}
use Rattle.field.proofs.Widths.{field_of, order_small}
use Rattle.field.proofs.Below.{all_below-means, all_below-holds}
use Rattle.field.proofs.Evaluation.{five-cong}
use Rattle.code.specs.declared.erasures.Trial.{Trial}
use Rattle.code.specs.declared.erasures.Correction.{Correction}
use Rattle.code.specs.Word.{five, places, at, syndrome, Codeword}
use Rattle.code.specs.Erasure.{member, differ, total, changes_below, changes, masked, masked_syndrome, syndromes_without}
use Rattle.code.specs.Near.{distance, Near, Restoration, none, one, several, restoration}
use Rattle.code.specs.Call.{all_zero, written, syndromes_shown, displayed, decided, restored, repair, within_asked, RestoresWithin}
use Rattle.code.specs.Demands.{Passes, PassesWithin, TwoNear}
use Rattle.code.specs.inner.Correction.{Lent, places_of, Ready, corrected, SeveralAt, Corrects, Ambiguous, NoneWithin, Workable}
use Rattle.code.proofs.Sums.{syndrome-cong}
use Rattle.code.proofs.distance.Unique.{differ-eq, differ-ne, differ-le}
use Rattle.code.proofs.restoring.Filling.{masked-lt, agrees-changes}
use Rattle.code.proofs.restoring.Extra.{agrees-within, within-agrees}
use Rattle.code.proofs.calls.Passing.{five-zero, given, within-passes}
use Rattle.code.proofs.restoring.Restoring.{G, never-two, finds-one, finds-none, finds-several}
use Rattle.code.proofs.Members.{append_right, member-append}

-- ---- the first c entries of a list, from the last on

module _ (n c : ℕ) (xs zs : List ℕ) (lx : c ≤ length xs) (lz : c ≤ length zs) (b : all_below n (take c xs) ≡ true)
    (i : ℕ) (p : 0 < i) (h : i ≤ c) where
  pub place-below : get_or xs (i - 1) 0 < n
  place-below =
      subst (λ (x : ℕ). x < n) (get_or-take c xs (i - 1) 0 (omega arith))
      (all_below-means n (take c xs) b (i - 1) (omega (arith, length-take-le c xs lx)))

  -- the part from i - 1 on of the first c entries
  pub part : (ys : List ℕ) → c ≤ length ys → drop (i - 1) (take c ys) ≡ get_or ys (i - 1) 0 ∷ drop i (take c ys)
  part ys l =
      let back : suc (i - 1) ≡ i = omega arith in
      drop-cons (take c ys) (i - 1) 0 (omega (arith, length-take-le c ys l))
      ∙ ap₂ (λ (y k : ℕ). y ∷ drop k (take c ys)) (get_or-take c ys (i - 1) 0 (omega arith)) back

-- ---- the syndromes without the erasures: those of the word with zeros there

-- the row is the word w with zeros at the first i of the places ls, and behind it what it was
pub record Masking (w ls row : List ℕ) (i : ℕ) : Type 0 where
  pub within : i ≤ length ls
  pub room : length w ≤ length row
  pub each : (p : ℕ) → p < length w → at row p ≡ masked (take i ls) (at w) p

module _ {w ls row : List ℕ} {i : ℕ} (M : Masking w ls row i) where
  pub masking-on : i < length ls → (q : ℕ) → q ≡ at ls i → q < length w → Masking w ls (set row q 0) (i + 1)
  masking-on h q e l = record {
    within = omega arith;
    room = omega (arith, M.room, length-set row q 0);
    each = λ p b. go p b (ℕ_discrete p q);
  }
    where
      more : (p : ℕ) → member p (take (i + 1) ls) ≡ (member p (take i ls) || eqb p q)
      more p =
          ap (λ (n : ℕ). member p (take n ls)) (add-one i) ∙ ap (member p) (take-suc ls i 0 h) ∙ member-append (take i ls) (at ls i ∷ []) p
          ∙ ap (λ (t : Bool). member p (take i ls) || t) (or-false (eqb p (at ls i)) ∙ ap (eqb p) (sym e))

      go : (p : ℕ) → p < length w → Dec (p ≡ q) → at (set row q 0) p ≡ masked (take (i + 1) ls) (at w) p
      go p b (yes d) =
          ap (λ (n : ℕ). at (set row q 0) n) d ∙ get_or-set_same row q 0 0 (omega (arith, M.room))
          ∙ sym (ap (λ (t : Bool). cond t 0 (at w p)) (more p ∙ ap (λ (t : Bool). member p (take i ls) || t) (eq-eqb p q d) ∙ or-true (member p (take i ls))))
      go p b (no n) =
          get_or-set_other row q p 0 0 n ∙ M.each p b
          ∙ sym (ap (λ (t : Bool). cond t 0 (at w p)) (more p ∙ ap (λ (t : Bool). member p (take i ls) || t) (ne_eqb p q n) ∙ or-false (member p (take i ls))))

  pub masking-size : length (take (length w) row) ≡ length w
  masking-size = length-take-le (length w) row M.room

  pub masking-end : length ls ≤ i → (p : ℕ) → p < length w → at (take (length w) row) p ≡ masked ls (at w) p
  masking-end h p l =
      get_or-take (length w) row p 0 l ∙ M.each p l
      ∙ ap (λ (xs : List ℕ). masked xs (at w) p) (take_all i ls (omega arith))

-- u is the word w with zeros at the places ls
module _ (m : ℕ) (v : is_width m ≡ true) (w ls u : List ℕ) (W : Lent m w ls) (size : length u ≡ length w)
    (each : (p : ℕ) → p < length w → at u p ≡ masked ls (at w) p) where
  masked-at : (p : ℕ) → p < places m → at u p ≡ masked ls (at w) p
  masked-at p h = each p (omega (arith, W.size))

  masked-size : length u ≡ places m
  masked-size = size ∙ W.size

  masked-symbols : all_below (order m) u ≡ true
  masked-symbols = all_below-holds (order m) u (λ p h.
      subst (λ (x : ℕ). x < order m) (sym (masked-at p (omega (arith, masked-size)))) (masked-lt (field_of m v) W p (omega (arith, masked-size))))

  -- s are its syndromes, if it is a word of the width
  pub masked-sums : (s : List ℕ) → (length u ≡ places m → all_below (order m) u ≡ true → s ≡ five (syndrome m (at u)))
      → s ≡ five (masked_syndrome m ls w)
  masked-sums s f =
      f masked-size masked-symbols
      ∙ five-cong _ _ (λ k h. syndrome-cong (field_of m v) (at u) (masked ls (at w)) masked-at k h)

-- with no erasures the word itself will do
pub plain-sums : (m : ℕ) → is_width m ≡ true → (w ls : List ℕ) → Lent m w ls → length ls ≡ 0
    → (s : List ℕ) → (length w ≡ places m → all_below (order m) w ≡ true → s ≡ five (syndrome m (at w))) → s ≡ five (masked_syndrome m ls w)
plain-sums m v w [] W e = masked-sums m v w [] w W refl (λ p h. refl)
plain-sums m v w (l ∷ ls) W e = absurd (omega arith)

-- ---- the count of changes

pub change-same : (t : Bool) (x y : ℕ) → x ≡ y → 0 ≡ cond t 0 (differ x y)
change-same true x y e = refl
change-same false x y e = sym (differ-eq x y e)

pub change-other : (t b : Bool) (x y : ℕ) → b ≡ t → x ≢ y → from_bool (not b) ≡ cond t 0 (differ x y)
change-other true b x y e n = ap (λ (s : Bool). from_bool (not s)) e
change-other false b x y e n = ap (λ (s : Bool). from_bool (not s)) e ∙ sym (differ-ne x y n)

module _ (es w c : List ℕ) where
  -- no more changes than places
  pub changes-le : (n : ℕ) → changes_below n es w c ≤ n
  unfolding total
  changes-le zero = zero-le
  changes-le (suc n) = omega (arith, changes-le n, go (member n es))
    where
      go : (t : Bool) → cond t 0 (differ (at w n) (at c n)) ≤ 1
      go true = zero-le
      go false = differ-le (at w n) (at c n)

-- ---- the display of the syndromes

pub gives-passed : (m : ℕ) (w es : List ℕ) → Passes m w es → (t : Trial) → places_of t ≡ es → Ready m w t
    → Ok t.sums ≡ syndromes_shown m w es
gives-passed m w es p t e R =
    ap Ok (R.sums ∙ ap (λ (ls : List ℕ). syndromes_without m ls w) e)
    ∙ ap (λ (u : Verdict). displayed u (syndromes_without m es w)) (sym p)

-- ---- the answer

-- a question before question 8 was answered no
pub restores-refused : (m : ℕ) (w es : List ℕ) (reach : ℕ) (v : Verdict) (q : Question) → v ≡ within_asked m w es reach → v ≡ Err q
    → (a : Result ℕ Question) → a ≡ Err q → (new : List ℕ) → new ≡ w → RestoresWithin m w es reach a new
restores-refused m w es reach v q e p a g new h =
    let f : Err q ≡ within_asked m w es reach = sym p ∙ e in
    let x = restoration m es w reach in
    record {
      answer = ap repair g ∙ ap (λ (u : Verdict). after u (decided m w es x)) f;
      word = h ∙ ap (λ (u : Verdict). written u w (restored w x)) f;
    }

-- the questions before question 8 were answered yes
module _ (m : ℕ) (w es : List ℕ) (r : ℕ) (P : PassesWithin m w es r) where
  answers : (x : Restoration) → restoration m es w r ≡ x → (a : Result ℕ Question) (new : List ℕ) → repair a ≡ decided m w es x → new ≡ restored w x
      → RestoresWithin m w es r a new
  answers x e a new f g = record {
    answer = f ∙ ap (decided m w es) (sym e) ∙ sym (ap (λ (v : Verdict). after v (decided m w es (restoration m es w r))) P);
    word = g ∙ ap (restored w) (sym e) ∙ sym (ap (λ (v : Verdict). written v w (restored w (restoration m es w r))) P);
  }

  near-answers : (c : List ℕ) → Near m es w r c → ((d : List ℕ) → Near m es w r d → d ≡ c) → (k : ℕ) (new : List ℕ) → k ≡ changes m es w c
      → new ≡ c → RestoresWithin m w es r (Ok k) new
  near-answers c N only k new ek en = answers (one c) (finds-one m w es r P c N only) (Ok k) new (ap accepted ek) en

  -- with few erasures a near codeword is the only one
  few-only : length es < distance m → (c : List ℕ) → Near m es w r c → (d : List ℕ) → Near m es w r d → d ≡ c
  few-only h c N d N' = never-two m w es r P h d c N' N

  -- a correction was found and written
  pub restores-found : (c : Correction) (k : ℕ) (new : List ℕ) → Corrects m w es r c → new ≡ corrected w c
      → k ≡ changes_below (length w) es w (corrected w c) → RestoresWithin m w es r (Ok k) new
  restores-found c k new C e f =
      near-answers (corrected w c) near (only (dec_lt (length es) (distance m))) k new
      (f ∙ ap (λ (n : ℕ). changes_below n es w (corrected w c)) lent.size) e
    where
      lent : Lent m w es
      lent = (G m w es r P).lent

      near : Near m es w r (corrected w c)
      near = agrees-within C.extra C.few C.codeword C.agrees

      -- with as many erasures as the distance there are no extra places
      only : Dec (length es < distance m) → (d : List ℕ) → Near m es w r d → d ≡ corrected w c
      only (yes h) = few-only h (corrected w c) near
      only (no n) = λ d N. C.only d N.codeword (λ p h o.
          within-agrees lent d N (omega (arith, (within-passes m w es r P).1)) p h (append_right C.extra es p o))

  -- nothing is near
  pub restores-none : NoneWithin m w es r → (new : List ℕ) → new ≡ w → RestoresWithin m w es r (Err Correctable) new
  restores-none N new e = answers none ((finds-none m w es r P).1 N) (Err Correctable) new refl e

  -- several codewords are near
  pub restores-several : Ambiguous m w es r → (new : List ℕ) → new ≡ w → RestoresWithin m w es r (Err Unique) new
  restores-several A new e = answers several ((finds-several m w es r P).1 two) (Err Unique) new refl e
    where
      T : SeveralAt m w (A.extra ++ es)
      T = A.two

      two : TwoNear m es w r
      two = record {
        first = T.first;
        second = T.second;
        first-near = agrees-within A.extra A.few T.first-codeword T.first-agrees;
        second-near = agrees-within A.extra A.few T.second-codeword T.second-agrees;
        different = T.different;
      }

  -- a codeword without erasures
  pub restores-clean : (t : Trial) → places_of t ≡ es → Ready m w t → length es ≡ 0 → all_zero t.sums ≡ true → (new : List ℕ) → new ≡ w
      → RestoresWithin m w es r (Ok 0) new
  restores-clean t et R l z new e =
      near-answers w near (few-only (omega arith) w near) 0 new (omega (arith, still)) e
    where
      empty : (xs : List ℕ) → length xs ≡ 0 → xs ≡ []
      empty [] l = refl
      empty (x ∷ xs) l = absurd (omega arith)

      still : changes m es w w ≤ 0
      still = agrees-changes m es w w (λ p h o. refl)

      word : Codeword m w
      word = record {
        size = R.lent.size;
        symbols = λ p h. R.lent.symbols p h (ap (member p) (et ∙ empty es l));
        zero-syndromes = λ k h.
            sym (ap (λ (xs : List ℕ). masked_syndrome m xs w k) (et ∙ empty es l))
            ∙ five-zero (masked_syndrome m (places_of t) w) (sym (ap all_zero R.sums) ∙ z) k h;
      }

      near : Near m es w r w
      near = record { codeword = word; few = le_trans still zero-le }

-- what the questions passed say of the memory lent
pub workable : (m : ℕ) (w es : List ℕ) → Passes m w es → Workable w es
workable m w es P =
    let g = given m w es P in
    record {
      few = omega (arith, g.few);
      long = omega (arith, g.lent.size, (field_of m g.width).one-lt);
      short = omega (arith, g.lent.size, order_small m g.width);
      below = subst (λ (n : ℕ). all_below n es ≡ true) (sym g.lent.size) g.lent.below;
    }
