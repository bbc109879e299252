-- Record numbers: what the test of one means, both ways. Assumes nothing.
use Rattle.field.proofs.Base.{le-leb, lt-leb, leb-true, ◌≡◌, true, false, ℕ, ◌≤◌, ◌<◌, leb}
use Rattle.field.proofs.Ask.{and-true-left, and-true-right}
use Rattle.card.specs.Card.{is_number}

module _ (n number : ℕ) where
  pub number-no : number < 1 → false ≡ is_number n number
  unfolding is_number
  number-no h = simp (lt-leb 1 number h)

  pub number-on : 1 ≤ number → leb number n ≡ is_number n number
  unfolding is_number
  number-on h = simp (le-leb 1 number h)

  pub number-yes : 1 ≤ number → number ≤ n → is_number n number ≡ true
  unfolding is_number
  number-yes l h = simp (le-leb 1 number l, le-leb number n h)

  pub number-low : is_number n number ≡ true → 1 ≤ number
  unfolding is_number
  number-low t = leb-true 1 number (and-true-left (leb 1 number) (leb number n) t)

  pub number-high : is_number n number ≡ true → number ≤ n
  unfolding is_number
  number-high t = leb-true number n (and-true-right (leb 1 number) (leb number n) t)
