-- The calendar, as the functions compute it. Assumes nothing.
use Rattle.field.proofs.Base.{◌≡◌, refl, sym, ap, ◌∙◌, ◌≢◌, inl, inr, Bool, false, cond, not, ◌||◌, List, [], ◌∷◌, ◌++◌, map, ℕ, suc, ◌+◌, ◌%◌, ◌≤◌}
use Rattle.field.proofs.Base.{arith, eq-eqb, ne_eqb, le-leb, lt-leb, eqb, leb, length, replicate}
use types.Run.{OneOf}
use Rattle.code.specs.Erasure.{member}
use Rattle.sheet.specs.Calendar.{is_leap, thirty, thirty_one, days_in, epoch, date_exists}

-- ---- leap years

module _ (y : ℕ) where
  pub leap-not-fourth : y % 4 ≢ 0 → eqb (y % 4) 0 ≡ is_leap y
  unfolding is_leap
  leap-not-fourth h = simp (ne_eqb (y % 4) 0 h)

  pub leap-fourth : y % 4 ≡ 0 → y % 100 ≢ 0 → not (eqb (y % 100) 0) ≡ is_leap y
  unfolding is_leap
  leap-fourth h n = simp (eq-eqb (y % 4) 0 h, ne_eqb (y % 100) 0 n)

  pub leap-hundred : y % 4 ≡ 0 → y % 100 ≡ 0 → eqb (y % 400) 0 ≡ is_leap y
  unfolding is_leap
  leap-hundred h n = simp (eq-eqb (y % 4) 0 h, eq-eqb (y % 100) 0 n)

-- ---- days of a month

-- a function that is v at each key is v at a number that is one of them
at-keys : (f : ℕ → ℕ) (v k : ℕ) (ks : List ℕ) → map f (k ∷ ks) ≡ replicate (suc (length ks)) v → (x : ℕ) → OneOf (k ∷ ks) x → v ≡ f x
at-keys f v k [] e x h = let i : f k ≡ v = cc in sym (ap f h ∙ i)
at-keys f v k (j ∷ ks) e x (inl h) = let i : f k ≡ v = cc in sym (ap f h ∙ i)
at-keys f v k (j ∷ ks) e x (inr h) = at-keys f v j ks (cc) x h

-- a number that is no key is not in the list of keys
no_key : (k : ℕ) (ks : List ℕ) (x : ℕ) → (OneOf (k ∷ ks) x → ⊥) → member x (k ∷ ks) ≡ false
no_key k [] x n = simp (ne_eqb x k n)
no_key k (j ∷ ks) x n = ap (λ (b : Bool). b || member x (j ∷ ks)) (ne_eqb x k (λ e. n (inl e))) ∙ no_key j ks x (λ h. n (inr h))

-- nor in two lists of keys together
no_keys : (k : ℕ) (ks : List ℕ) (j : ℕ) (js : List ℕ) (x : ℕ) → (OneOf (k ∷ ks) x → ⊥) → (OneOf (j ∷ js) x → ⊥)
    → member x ((k ∷ ks) ++ (j ∷ js)) ≡ false
no_keys k [] j js x n m = ap (λ (b : Bool). b || member x (j ∷ js)) (ne_eqb x k n) ∙ no_key j js x m
no_keys k (i ∷ ks) j js x n m =
    ap (λ (b : Bool). b || member x ((i ∷ ks) ++ (j ∷ js))) (ne_eqb x k (λ e. n (inl e))) ∙ no_keys i ks j js x (λ h. n (inr h)) m

module _ (y mo : ℕ) where
  pub days-thirty : OneOf thirty mo → 30 ≡ days_in y mo
  unfolding days_in
  days-thirty = at-keys (days_in y) 30 4 (6 ∷ 9 ∷ 11 ∷ []) refl mo

  -- the answer b to the question about the year is c
  pub days-february : mo ≡ 2 → (b c : Bool) → b ≡ is_leap y → b ≡ c → cond c 29 28 ≡ days_in y mo
  unfolding days_in
  days-february h b c e t = ap (λ (x : Bool). cond x 29 28) (sym t ∙ e) ∙ sym (ap (days_in y) h)

  pub days-to-july : OneOf (1 ∷ 3 ∷ 5 ∷ 7 ∷ []) mo → 31 ≡ days_in y mo
  unfolding days_in
  days-to-july = at-keys (days_in y) 31 1 (3 ∷ 5 ∷ 7 ∷ []) refl mo

  pub days-from-august : OneOf (8 ∷ 10 ∷ 12 ∷ []) mo → 31 ≡ days_in y mo
  unfolding days_in
  days-from-august = at-keys (days_in y) 31 8 (10 ∷ 12 ∷ []) refl mo

  pub days-none : (OneOf thirty mo → ⊥) → mo ≢ 2 → (OneOf (1 ∷ 3 ∷ 5 ∷ 7 ∷ []) mo → ⊥) → (OneOf (8 ∷ 10 ∷ 12 ∷ []) mo → ⊥) → 0 ≡ days_in y mo
  unfolding days_in
  days-none a f b d =
      sym (ap (λ (x : Bool). cond x 30 (cond (eqb mo 2) (cond (is_leap y) 29 28) (cond (member mo thirty_one) 31 0)))
      (no_key 4 (6 ∷ 9 ∷ 11 ∷ []) mo a)
      ∙ ap (λ (x : Bool). cond x (cond (is_leap y) 29 28) (cond (member mo thirty_one) 31 0)) (ne_eqb mo 2 f)
      ∙ ap (λ (x : Bool). cond x 31 0) (no_keys 1 (3 ∷ 5 ∷ 7 ∷ []) 8 (10 ∷ 12 ∷ []) mo b d))

-- ---- dates

module _ (y mo d : ℕ) where
  pub date-zero : (1 ≤ d → ⊥) → leb 1 d ≡ date_exists y mo d
  unfolding date_exists
  date-zero h = simp (lt-leb 1 d (omega arith))

  pub date-some : 1 ≤ d → (n : ℕ) → n ≡ days_in (epoch + y) mo → leb d n ≡ date_exists y mo d
  unfolding date_exists
  date-some h n e = ap (leb d) e ∙ simp (le-leb 1 d h)
