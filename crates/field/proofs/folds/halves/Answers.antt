-- `field::folds::halves` meets its contract. Assumes nothing.
use Rattle.field.proofs.Base.{rules, ◌≡◌, ◌∙◌, cond, ℕ, ◌+◌, ◌*◌, ◌%◌, ◌/◌, arith, eqb}
use Rattle.field.specs.Sum.{at}
use Rattle.field.proofs.Values.{total-halves}
use Rattle.field.proofs.Generated.{made}
use Rattle.field.proofs.folds.halves.Goals as goal

-- what stands at place i, where x is the number that is cut
cut : ℕ → ℕ → ℕ → ℕ
cut p i x = cond (eqb (i % 2) 0) (x % p) (x / p)

pub returns : goal.returns
unfolding cut
returns c =
    λ v d small.
    (let w = c.args.w in
    let p : ℕ = c.args.p in
    let at-place = made _ _ (λ i r. r ≡ cut p i (at w (i / 2))) (λ i r q k. search rules) 16 c.from_fn.result c.from_fn.ensures.items.each in
    total-halves v p d 8 w c.from_fn.result (λ i h.
    (let even : 2 * i % 2 ≡ 0 = omega arith in
    let odd : (2 * i + 1) % 2 ≡ 1 = omega arith in
    let lower : 2 * i / 2 ≡ i = omega arith in
    let upper : (2 * i + 1) / 2 ≡ i = omega arith in
    (at-place (2 * i) (omega arith) ∙ simp (even, lower), at-place (2 * i + 1) (omega arith) ∙ simp (odd, upper)))) small)
