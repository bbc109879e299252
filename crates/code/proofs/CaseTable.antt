-- A table of cases holds if a test that antt computes passes: the encoder's words are compared, a restored word is a codeword near enough,
-- and of a refused word every choice of r extra places and of the symbols there is tried. Assumes nothing.
use Rattle.std.proofs.Common.{Ok, Err}
use Rattle.field.specs.Question.{Verdict}
use Rattle.field.proofs.Base.{◌≡◌, refl, sym, ap, ◌∙◌, subst, Bool, true, false, not, ◌&&◌, List, [], ◌∷◌, ◌++◌, map, ℕ, zero, suc, ◌≤◌, ◌<◌}
use Rattle.field.proofs.Base.{not-suc-le-zero, le_of_suc-le-suc, arith, T, eqb, leb, ltb, eqb→eq, length}
use lib.Dec.{leb→le, ltb→lt, T_not}
use Rattle.field.specs.Field.{order}
use Rattle.field.specs.Question.{Outcome, accepted, refused, refusal, all_below}
use Rattle.field.specs.declared.Question.TheVariants.{Correctable}
use Rattle.field.proofs.Laws.{IsField}
use Rattle.field.proofs.Check.{and_left, and_right, all, all-at}
use Rattle.field.proofs.Widths.{field_of}
use Rattle.field.proofs.Evaluation.{five-cong}
use Rattle.field.proofs.Below.{all_below-means}
use Rattle.code.specs.Word.{places, items, five, at, Codeword, encode}
use Rattle.code.specs.Erasure.{changes, masked_syndrome}
use Rattle.code.specs.Near.{distance, radius, Near}
use Rattle.code.specs.Call.{written, done, same_bytes, zero_syndromes, restore_asked}
use Rattle.code.specs.Demands.{Data, PassesWithin}
use Rattle.code.specs.Cases.{Case, encoding, restoring, codeword, Holds, Table}
use Rattle.code.proofs.Same.{same_refl, same-equal}
use Rattle.code.proofs.Columns.{combine}
use Rattle.code.specs.inner.Correction.{Lent}
use Rattle.code.proofs.restoring.Filling.{Each, Solution, codeword-solution}
use Rattle.code.proofs.restoring.Extra.{Falling, Beside, within-beside, wrong}
use Rattle.code.proofs.calls.Passing.{syndromes-zero, encode-passes, given, within-passes, passes-radius}
use Rattle.code.proofs.Demands.{never-two, accepts, refuses-seven, refused-unchanged}

and-three : (a b c : Bool) → T (a && (b && c)) → T a × T b × T c
and-three a b c t = (and_left a (b && c) t, and_left b c (and_right a (b && c) t), and_right b c (and_right a (b && c) t))

true_of : (b : Bool) → T b → b ≡ true
true_of true t = refl
true_of false t = absurd t

-- ---- two lists are equal

same_of : (xs ys : List ℕ) → T (same_bytes xs ys) → xs ≡ ys
same_of xs ys t = same-equal xs ys (true_of (same_bytes xs ys) t)

same-to : {xs ys : List ℕ} → xs ≡ ys → T (same_bytes xs ys)
same-to {xs} e = subst (λ (ys : List ℕ). T (same_bytes xs ys)) e (subst T (sym (same_refl xs)) tt)

-- ---- the questions are passed

abbrev pub passed? : Verdict → Bool
passed? (Ok tt) = true
passed? (Err q) = false

pub passed-of : (v : Verdict) → T (passed? v) → v ≡ (Ok tt)
passed-of (Ok tt) t = refl
passed-of (Err q) t = absurd t

-- ---- a word is a codeword

module _ (m : ℕ) (w : List ℕ) where
  abbrev pub codeword? : Bool
  codeword? = eqb (length w) (places m) && (all_below (order m) w && zero_syndromes m w)

  pub codeword-of : T codeword? → Codeword m w
  codeword-of t =
      let ts = and-three (eqb (length w) (places m)) (all_below (order m) w) (zero_syndromes m w) t in
      let size : length w ≡ places m = eqb→eq (length w) (places m) ts.0 in
      record {
        size = size;
        symbols = λ p h. all_below-means (order m) w (true_of (all_below (order m) w) ts.1) p (omega arith);
        zero-syndromes = syndromes-zero m w (true_of (zero_syndromes m w) ts.2);
      }

-- ---- no codeword is near

-- the test at each list of k numbers below q
abbrev all-values : ℕ → ℕ → (List ℕ → Bool) → Bool
all-values q zero f = f []
all-values q (suc k) f = all (λ z. all-values q k (λ zs. f (z ∷ zs))) q

values-at : (q : ℕ) (ls zs : List ℕ) → Each (λ p z. z < q) ls zs → (f : List ℕ → Bool) → T (all-values q (length ls) f) → T (f zs)
values-at q [] [] rs f t = t
values-at q [] (z ∷ zs) rs f t = absurd rs
values-at q (l ∷ ls) [] rs f t = absurd rs
values-at q (l ∷ ls) (z ∷ zs) rs f t =
    values-at q ls zs rs.1 (λ zs. f (z ∷ zs)) (all-at (λ z. all-values q (length ls) (λ zs. f (z ∷ zs))) q t z rs.0)

-- the test at each falling list of at most r numbers below n
abbrev all-places : ℕ → ℕ → (List ℕ → Bool) → Bool
all-places zero n f = f []
all-places (suc r) n f = f [] && all (λ p. all-places r p (λ ps. f (p ∷ ps))) n

places-at : (r n : ℕ) (ps : List ℕ) → Falling n ps → length ps ≤ r → (f : List ℕ → Bool) → T (all-places r n f) → T (f ps)
places-at zero n [] d h f t = t
places-at zero n (p ∷ ps) d h f t = absurd (not-suc-le-zero h)
places-at (suc r) n [] d h f t = and_left (f []) _ t
places-at (suc r) n (p ∷ ps) d h f t =
    places-at r p ps d.1 (le_of_suc-le-suc h) (λ ps. f (p ∷ ps))
    (all-at (λ p. all-places r p (λ ps. f (p ∷ ps))) n (and_right (f []) (all (λ p. all-places r p (λ ps. f (p ∷ ps))) n) t) p d.0)

module _ (m : ℕ) (ls w : List ℕ) where
  -- the values solve the system at the places ls
  abbrev solves? : List ℕ → Bool
  solves? zs = same_bytes (five (combine m ls zs)) (five (masked_syndrome m ls w))

  abbrev no-solution? : Bool
  no-solution? = all-values (order m) (length ls) (λ zs. not (solves? zs))

  no-solution : T no-solution? → (zs : List ℕ) → Solution m w ls zs → ⊥
  no-solution t zs S = T_not (solves? zs) (values-at (order m) ls zs S.values (λ zs. not (solves? zs)) t)
      (same-to (five-cong (combine m ls zs) (masked_syndrome m ls w) S.rows))

abbrev none-within? : ℕ → List ℕ → List ℕ → ℕ → Bool
none-within? m w es r = all-places r (places m) (λ extra. no-solution? m (extra ++ es) w)

none_within : {m : ℕ} → IsField m → (w es : List ℕ) (r : ℕ) → Lent m w es → T (none-within? m w es r) → (c : List ℕ) → Near m es w r c → ⊥
none_within {m} F w es r W t c N = no-solution m (extra ++ es) w
    (places-at r (places m) extra B.falling B.few (λ extra. no-solution? m (extra ++ es) w) t) (map (at c) (extra ++ es))
    (codeword-solution F B.lent N.codeword B.agrees)
  where
    extra : List ℕ
    extra = wrong es w c (places m)

    B : Beside m es w r c extra
    B = within-beside W N

-- ---- the rows

module _ (ds : List ℕ) where
  abbrev data? : Bool
  data? = eqb (length ds) (items 3) && all_below (order 3) ds

  data_of : T data? → Data 3 ds
  data_of t =
      let size : length ds ≡ items 3 = eqb→eq (length ds) (items 3) (and_left (eqb (length ds) (items 3)) (all_below (order 3) ds) t) in
      let b = true_of (all_below (order 3) ds) (and_right (eqb (length ds) (items 3)) (all_below (order 3) ds) t) in
      record { size = size; symbols = λ i h. all_below-means (order 3) ds b i (omega arith) }

  encodes-of : (w : List ℕ) → T (data? && same_bytes (encode 3 ds) w) → Holds (encoding ds w)
  encodes-of w t = (
    e,
    λ out l.
        let p = encode-passes 3 refl ds out (data_of (and_left data? (same_bytes (encode 3 ds) w) t)) l in
        (ap done p, ap (λ (v : Verdict). written v out (encode 3 ds)) p ∙ e),
  )
    where
      e : encode 3 ds ≡ w
      e = same_of (encode 3 ds) w (and_right data? (same_bytes (encode 3 ds) w) t)

module _ (w es : List ℕ) where
  abbrev r : ℕ
  r = radius 3 (length es)

  abbrev restores? : Outcome → List ℕ → Bool
  restores? (accepted k) c = codeword? 3 c && (leb (changes 3 es w c) r && eqb k (changes 3 es w c))
  restores? (refused n) c = none-within? 3 w es r && (eqb n (refusal Correctable) && same_bytes c w)

  restores-of : PassesWithin 3 w es r → length es < distance 3 → (o : Outcome) (c : List ℕ) → T (restores? o c) → Holds (restoring w es o c)
  restores-of p few (accepted k) c t =
      let ts = and-three (codeword? 3 c) (leb (changes 3 es w c) r) (eqb k (changes 3 es w c)) t in
      let near : Near 3 es w r c = record { codeword = codeword-of 3 c ts.0; few = leb→le _ _ ts.1 } in
      (accepts 3 w es r k c).1 (
        p,
        record {
          near = near;
          only = λ d N. never-two 3 w es r p few d c N near;
          count = eqb→eq k (changes 3 es w c) ts.2;
        },
      )
  restores-of p few (refused n) c t =
      let ts = and-three (none-within? 3 w es r) (eqb n (refusal Correctable)) (same_bytes c w) t in
      let e = (refuses-seven 3 w es r).1 (p, λ d N. none_within (field_of 3 refl) w es r (given 3 w es (within-passes 3 w es r p).0).lent ts.0 d N) in
      (e ∙ ap refused (sym (eqb→eq n (refusal Correctable) ts.1)), refused-unchanged 3 w es r 7 e ∙ sym (same_of c w ts.2))

-- ---- the table

abbrev holds? : Case → Bool
holds? (encoding ds w) = data? ds && same_bytes (encode 3 ds) w
holds? (restoring w es o c) = passed? (restore_asked 3 w es) && (ltb (length es) (distance 3) && restores? w es o c)
holds? (codeword m w) = codeword? m w

holds_of : (x : Case) → T (holds? x) → Holds x
holds_of (encoding ds w) t = encodes-of ds w t
holds_of (restoring w es o c) t =
    let v = restore_asked 3 w es in
    let ts = and-three (passed? v) (ltb (length es) (distance 3)) (restores? w es o c) t in
    restores-of w es (passes-radius 3 w es ∙ passed-of v ts.0) (ltb→lt _ _ ts.1) o c ts.2
holds_of (codeword m w) t = codeword-of m w t

abbrev pub table? : List Case → Bool
table? [] = true
table? (x ∷ xs) = holds? x && table? xs

pub table_of : (xs : List Case) → T (table? xs) → Table xs
table_of [] t = tt
table_of (x ∷ xs) t = (holds_of x (and_left (holds? x) (table? xs) t), table_of xs (and_right (holds? x) (table? xs) t))
