-- `field::folds::Relation::fold` meets its contract. The invariants: for each value that takes sums to sums, and each d at which the relation
-- holds, the weighted sum over the numbers below top is that over the sixteen at the start, and the numbers from there on are 0; and while the
-- number x is spread, the places that are left make of the row what all make of it at the start. Assumes nothing.
use Rattle.field.proofs.Base.{◌≡◌, ℕ, ◌-◌, length, drop}
use Rattle.field.specs.inner.Folds.{Additive, Obeys, value_total}
use Rattle.field.proofs.Relations.{puts, Cleared}
use Rattle.field.proofs.folds.Relation.fold.Given as goal

abbrev pub invariant-loop-top : goal.invariant-loop-top
invariant-loop-top g l =
    (length l.w ≡ 16) × Cleared l.top l.w
    × ((v : ℕ → ℕ) (d : ℕ) → Additive v → Obeys l.self.degree l.self.places d → value_total v d l.top l.w ≡ value_total v d 16 l.initial.w)

abbrev pub invariant-loop-place : goal.invariant-loop-place
invariant-loop-place g l =
    let t = l.top - l.self.degree in
    (length l.w ≡ 16) × Cleared l.top l.w
    × (puts t l.x (drop l.place-index l.self.places) l.w ≡ puts t l.x l.self.places l.initial.w)
