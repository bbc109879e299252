-- The cases with five erasures. Assumes nothing.
use Rattle.field.proofs.Base.{◌≡◌, refl, sym, ap, ap₂, ◌∙◌, false, ◌&&◌, List, [], ◌∷◌, map, ℕ, ◌+◌, ◌≤◌, arith, ne_eqb, T, leb, length, length-drop}
use Rattle.field.proofs.Base.{get_or-drop, ext_get_or}
use lib.Dec.{leb→le}
use Rattle.field.specs.Polynomial.{add}
use Rattle.field.specs.Field.{product}
use Rattle.field.specs.inner.Operand.{arithmetic}
use Rattle.field.specs.Question.{accepted}
use Rattle.field.proofs.Laws.{IsField}
use Rattle.field.proofs.Check.{and_left, and_right}
use Rattle.field.proofs.Widths.{field_of}
use Rattle.field.proofs.Sums.{sum-cong, sum-add, sum-times, sum-zero}
use Rattle.code.specs.Word.{checks, at, sum, encode, data_of}
use Rattle.code.specs.inner.Place.{column}
use Rattle.code.specs.Erasure.{member, total, changes, masked_syndrome}
use Rattle.code.specs.Near.{radius, Near}
use Rattle.code.specs.Call.{zero_syndromes, restore_asked}
use Rattle.code.specs.Demands.{PassesWithin}
use Rattle.code.specs.Cases.{restoring, refusing, zeros, word_c, word, symbols, ◌but◌is◌, five_erasures, Holds, Table}
use Rattle.code.proofs.Columns.{combine}
use Rattle.code.proofs.restoring.Filling.{codeword-solution}
use Rattle.code.proofs.restoring.Extra.{within-agrees}
use Rattle.code.proofs.calls.Encoding.{codeword-encode}
use Rattle.code.proofs.calls.Passing.{passes-radius}
use Rattle.code.proofs.restoring.Restoring.{G}
use Rattle.code.proofs.Demands.{accepts, refuses-seven, refuses-fourteen, refused-unchanged}
use Rattle.code.proofs.CaseTable.{passed?, passed-of, codeword?, codeword-of}

-- ---- a sum of rows that has no unknown

-- the rows of a system, each times its factor, added up
abbrev weigh : ℕ → (ℕ → ℕ) → (ℕ → ℕ) → ℕ
weigh m y f = sum checks (λ k. product m (f k) (y k))

-- the columns at the places ls add up to 0
abbrev Cancels : ℕ → (ℕ → ℕ) → List ℕ → Type 0
Cancels m y [] = Unit {0}
Cancels m y (l ∷ ls) = (weigh m y (column m l) ≡ 0) × Cancels m y ls

module _ {m : ℕ} (F : IsField m) (y : ℕ → ℕ) where
  weigh-zero : weigh m y (λ k. 0) ≡ 0
  weigh-zero = sum-cong checks (λ k. product m 0 (y k)) (λ k. 0) (λ k h. F.zero-product (y k)) ∙ sum-zero F checks

  weigh-times : (f : ℕ → ℕ) (z : ℕ) → weigh m y (λ k. product m (f k) z) ≡ product m (weigh m y f) z
  weigh-times f z =
      sum-cong checks (λ k. product m (product m (f k) z) (y k)) (λ k. product m (product m (f k) (y k)) z)
      (λ k h. F.product-assoc (f k) z (y k) ∙ ap (product m (f k)) (F.product-comm z (y k)) ∙ sym (F.product-assoc (f k) (y k) z))
      ∙ sum-times F checks (λ k. product m (f k) (y k)) z

  weigh-combine : (ls zs : List ℕ) → Cancels m y ls → weigh m y (combine m ls zs) ≡ 0
  unfolding combine
  weigh-combine [] zs C = weigh-zero
  weigh-combine (l ∷ ls) [] C = weigh-zero
  weigh-combine (l ∷ ls) (z ∷ zs) C =
      sum-cong checks _ (λ k. add (product m (product m (column m l k) z) (y k)) (product m (combine m ls zs k) (y k)))
      (λ k h. F.add-product (product m (column m l k) z) (combine m ls zs k) (y k))
      ∙ sum-add F checks (λ k. product m (product m (column m l k) z) (y k)) (λ k. product m (combine m ls zs k) (y k))
      ∙ ap₂ add (weigh-times (column m l) z ∙ ap (λ (x : ℕ). product m x z) C.0 ∙ F.zero-product z) (weigh-combine ls zs C.1)
      ∙ F.add-zero 0

-- ---- the rows

abbrev Near? : List ℕ → List ℕ → List ℕ → Type 0
Near? w es c = T (codeword? 3 c && leb (changes 3 es w c) 0)

near_of : (w es c : List ℕ) → Near? w es c → Near 3 es w 0 c
near_of w es c t = record {
  codeword = codeword-of 3 c (and_left (codeword? 3 c) (leb (changes 3 es w c) 0) t);
  few = leb→le _ _ (and_right (codeword? 3 c) (leb (changes 3 es w c) 0) t);
}

-- erasures at the data places 5, 6 and 8 and at two check places
abbrev mixed : List ℕ
mixed = 2 ∷ 4 ∷ 5 ∷ 6 ∷ 8 ∷ []

passes_of : (w es : List ℕ) → T (passed? (restore_asked 3 w es)) → PassesWithin 3 w es (radius 3 (length es))
passes_of w es t = passes-radius 3 w es ∙ passed-of (restore_asked 3 w es) t

-- several: two codewords that are 0 outside the erasures
several-holds : Holds (refusing zeros mixed 14)
unfolding restore_asked arithmetic sum total zero_syndromes
several-holds =
    let other = word 0 0 3 0 2 (symbols 5 1 0 4 0 0 0) in
    let e = (refuses-fourteen 3 zeros mixed 0).1 (
      passes_of zeros mixed tt,
      record {
        first = zeros;
        second = other;
        first-near = near_of zeros mixed zeros tt;
        second-near = near_of zeros mixed other tt;
        different = λ e. (let z : ◌≡◌ {A = ℕ} 0 5 = ap (λ (w : List ℕ). at w 5) e in omega arith);
      },
    ) in
    (e, refused-unchanged 3 zeros mixed 0 14 e)

-- none: 6 times row 0, 7 times row 1 and row 3 add up to 0 at the places erased, and not on the right
none-holds : Holds (refusing (zeros but 0 is 1) mixed 7)
unfolding restore_asked arithmetic sum column
none-holds =
    let e = (refuses-seven 3 w mixed 0).1 (p, far) in
    (e, refused-unchanged 3 w mixed 0 7 e)
  where
    w : List ℕ
    w = zeros but 0 is 1

    y : ℕ → ℕ
    y = at (6 ∷ 7 ∷ 0 ∷ 1 ∷ 0 ∷ [])

    p : PassesWithin 3 w mixed 0
    p = passes_of w mixed tt

    cancels : Cancels 3 y mixed
    cancels = (refl, (refl, (refl, (refl, (refl, tt)))))

    right : weigh 3 y (masked_syndrome 3 mixed w) ≡ 6
    right = refl

    far : (c : List ℕ) → Near 3 mixed w 0 c → ⊥
    far c N =
        let F = field_of 3 refl in
        let W = (G 3 w mixed 0 p).lent in
        let S = codeword-solution F W N.codeword (within-agrees W c N refl) in
        let z : ◌≡◌ {A = ℕ} 6 0 =
        sym right
        ∙ sum-cong checks (λ k. product 3 (masked_syndrome 3 mixed w k) (y k)) (λ k. product 3 (combine 3 mixed (map (at c) mixed) k) (y k))
        (λ k h. ap (λ (x : ℕ). product 3 x (y k)) (sym (S.rows k h)))
        ∙ weigh-combine F y mixed (map (at c) mixed) cancels in
        omega arith

-- one: the data makes the check symbols
one_holds : Holds (restoring (word 0 0 0 0 0 (symbols 0 1 0 0 0 0 0)) (0 ∷ 1 ∷ 2 ∷ 3 ∷ 4 ∷ []) (accepted 0) word_c)
unfolding restore_asked arithmetic sum total zero_syndromes
one_holds = (accepts 3 w es 0 0 word_c).1 (p, record { near = near_of w es word_c tt; only = only; count = refl })
  where
    w : List ℕ
    w = word 0 0 0 0 0 (symbols 0 1 0 0 0 0 0)

    es : List ℕ
    es = 0 ∷ 1 ∷ 2 ∷ 3 ∷ 4 ∷ []

    p : PassesWithin 3 w es 0
    p = passes_of w es tt

    outside : (i : ℕ) → 5 ≤ i → member i es ≡ false
    outside i h = simp (
      ne_eqb i 0 (λ e. omega arith),
      ne_eqb i 1 (λ e. omega arith),
      ne_eqb i 2 (λ e. omega arith),
      ne_eqb i 3 (λ e. omega arith),
      ne_eqb i 4 (λ e. omega arith),
    )

    made : encode 3 (data_of w) ≡ word_c
    made = refl

    only : (d : List ℕ) → Near 3 es w 0 d → d ≡ word_c
    only d N =
        let C = N.codeword in
        let G = within-agrees (G 3 w es 0 p).lent d N refl in
        let l : length (data_of d) ≡ 7 = simp length-drop (omega (arith, C.size)) in
        let same : data_of d ≡ data_of w = ext_get_or 0 (data_of d) (data_of w) l (λ i h.
        get_or-drop checks d i 0 ∙ G (checks + i) (omega arith) (outside (checks + i) (omega arith)) ∙ sym (get_or-drop checks w i 0)) in
        sym (codeword-encode (field_of 3 refl) C) ∙ ap (encode 3) same ∙ made

pub five-hold : Table five_erasures
five-hold = (several-holds, (none-holds, (one_holds, tt)))
