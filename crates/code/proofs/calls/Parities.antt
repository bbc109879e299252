-- The syndromes of a word from the sums over its data, the part after the check symbols. Assumes nothing.
use Rattle.field.proofs.Base.{◌≡◌, sym, ap, ◌∙◌, subst, true, List, ℕ, ◌+◌, ◌-◌, ◌*◌, ◌<◌, arith, length, take, drop, length-drop, get_or-drop}
use Rattle.field.specs.Polynomial.{add}
use Rattle.field.specs.Field.{order, product, power, α}
use Rattle.field.specs.Question.{all_below}
use Rattle.field.proofs.Below.{all_below-means, all_below-holds}
use Rattle.field.proofs.Sums.{sum-cong}
use Rattle.field.proofs.Evaluation.{five-at}
use Rattle.code.specs.Word.{checks, places, items, five, at, weighted, parity, syndrome, data_of}
use Rattle.code.proofs.Loops.{part-drop}

all_below-drop : (q n : ℕ) (w : List ℕ) → all_below q w ≡ true → all_below q (drop n w) ≡ true
all_below-drop q n w b =
    all_below-holds q (drop n w)
    (λ k h. subst (λ (x : ℕ). x < q) (sym (get_or-drop n w k 0)) (all_below-means q w b (n + k) (omega (arith, length-drop n w, h))))

-- the sum over the data of a word, and over the data as a list
pub parity-data : (m : ℕ) (w : List ℕ) (k : ℕ) → parity m (at (data_of w)) k ≡ parity m (λ i. at w (checks + i)) k
parity-data m w k = sum-cong (items m) _ _ (λ i h. ap (product m (power m α (k * i))) (get_or-drop checks w i 0))

module _ (m : ℕ) (w : List ℕ) (cs : List ℕ) (size : length w ≡ places m) (b : all_below (order m) w ≡ true) where
  weighted-data : (k : ℕ) → weighted m (length (drop checks w)) (at (drop checks w)) k ≡ parity m (λ i. at w (checks + i)) k
  weighted-data k =
      ap (λ (n : ℕ). weighted m n (at (drop checks w)) k) (length-drop checks w ∙ omega arith) ∙ parity-data m w k

  pub syndromes-of : (all_below (order m) (take (length w - checks) (drop checks w)) ≡ true
      → cs ≡ five (weighted m (length (take (length w - checks) (drop checks w))) (at (take (length w - checks) (drop checks w)))))
      → (k : ℕ) → k < checks → add (at w k) (at cs k) ≡ syndrome m (at w) k
  syndromes-of e k h =
      ap (add (at w k))
      (ap (λ (u : List ℕ). at u k)
      (e (subst (λ (u : List ℕ). all_below (order m) u ≡ true) (sym (part-drop checks w)) (all_below-drop (order m) checks w b)))
      ∙ five-at (weighted m (length (take (length w - checks) (drop checks w))) (at (take (length w - checks) (drop checks w)))) k h
      ∙ ap (λ (u : List ℕ). weighted m (length u) (at u) k) (part-drop checks w)
      ∙ weighted-data k)
