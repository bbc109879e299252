-- `field::folds::words` meets its contract. Assumes nothing.
use Rattle.field.proofs.Base.{rules, ◌≡◌, ℕ, ◌*◌, ◌/◌, ◌≤◌, ◌<◌, dec_lt, arith, subst, sym}
use Rattle.field.specs.Sum.{at}
use Rattle.field.specs.inner.Lanes.{Block}
use Rattle.field.proofs.Filling.{last-number}
use Rattle.field.proofs.Generated.{made}
use Rattle.field.proofs.folds.words.Goals as goal

pub returns : goal.returns
returns c =
    let cs = c.args.cs.now in
    let w = c.from_fn.result in
    let at-place = made _ _ (λ i r. (i < 15 → Block 8 cs (8 * i) r) × (15 ≤ i → (x : ℕ) × Block 8 cs 119 x × (r ≡ x / 256)))
    (λ i r q k. search rules) 16 w c.from_fn.ensures.items.each in
    λ i h.
    (elim (dec_lt i 15) [
      | yes l ↦ (at-place i h).0 l
      | no l ↦
          let n : i ≡ 15 = omega arith in
          let t = (at-place 15 (omega arith)).1 (omega arith) in
          subst (λ (k : ℕ). Block 8 cs (8 * k) (at w k)) (sym n) (subst (Block 8 cs (8 * 15)) (sym t.2) (last-number cs t.0 c.requires t.1))
    ])
