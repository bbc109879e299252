-- What the test of question 7 means for a list of symbols, both ways. Assumes nothing.
use Rattle.field.proofs.Base.{◌≡◌, refl, Bool, true, ◌&&◌, List, [], ◌∷◌, ℕ, zero, suc, ◌≤◌, ◌<◌, le_of_suc-le-suc, not-suc-le-zero, arith}
use Rattle.field.proofs.Base.{lt-ltb, ltb-true, ltb, length, get_or}
use Rattle.field.specs.Question.{all_below}
use Rattle.field.proofs.Ask.{and-true-left, and-true-right}
use Rattle.field.specs.Sum.{at}

pub and-holds : (a b : Bool) → a ≡ true → b ≡ true → (a && b) ≡ true
and-holds a b h k = simp (h, k)

module _ (l : ℕ) (ls : List ℕ) where
  pub below-head : (n : ℕ) → all_below n (l ∷ ls) ≡ true → l < n
  below-head n b = ltb-true l n (and-true-left (ltb l n) (all_below n ls) b)

  pub below-tail : (n : ℕ) → all_below n (l ∷ ls) ≡ true → all_below n ls ≡ true
  below-tail n b = and-true-right (ltb l n) (all_below n ls) b

pub all_below-means : (n : ℕ) (xs : List ℕ) → all_below n xs ≡ true → (k : ℕ) → k < length xs → get_or xs k 0 < n
all_below-means n [] h k l = absurd (not-suc-le-zero l)
all_below-means n (x ∷ xs) h zero l = below-head x xs n h
all_below-means n (x ∷ xs) h (suc k) l = all_below-means n xs (below-tail x xs n h) k (le_of_suc-le-suc l)

pub all_below-holds : (n : ℕ) (xs : List ℕ) → ((k : ℕ) → k < length xs → get_or xs k 0 < n) → all_below n xs ≡ true
all_below-holds n [] h = refl
all_below-holds n (x ∷ xs) h =
    and-holds (ltb x n) (all_below n xs) (lt-ltb x n (h zero (omega arith))) (all_below-holds n xs (λ k l. h (suc k) (omega arith)))

-- past its end a list holds 0
pub past_end : (cs : List ℕ) (p : ℕ) → length cs ≤ p → at cs p ≡ 0
past_end [] p h = refl
past_end (c ∷ cs) zero h = absurd (omega arith)
past_end (c ∷ cs) (suc p) h = past_end cs p (omega arith)
