-- `field::folds::Relation::fold` meets its contract. Assumes nothing.
use Rattle.field.proofs.Base.{rules, ◌≡◌, refl, sym, ap, ◌∙◌, ℕ, suc, ◌+◌, ◌-◌, ◌≤◌, ◌<◌, arith, length, set, length-set}
use Rattle.field.specs.Polynomial.{add}
use Rattle.field.specs.Sum.{at}
use Rattle.field.specs.inner.Folds.{value_total}
use Rattle.field.proofs.Relations.{cleared-more, cleared-stay, puts, puts-next, puts-none, Within, fold-cleared, total-zeros}
use Rattle.field.proofs.folds.Relation.fold.Goals as goal

pub loop-place-init : goal.loop-place-init
loop-place-init g c =
    let w = c.loop-top.w in
    let n : ℕ = c.loop-top.top - 1 in
    let size : length w ≡ 16 = c.loop-top.invariant.0 in
    let next : suc n ≡ c.loop-top.top = omega arith in (
      length-set w n 0 ∙ size,
      cleared-more n w (omega arith) (rw next c.loop-top.invariant.1),
      refl,
    )

pub loop-place-preserved : goal.loop-place-preserved
unfolding add
loop-place-preserved g c =
    let bs = c.args.self.now.places in
    let w = c.loop-place.w in
    let n : ℕ = c.loop-top.top - 1 in
    let t : ℕ = n - c.args.self.now.degree in
    let j = c.loop-place.place-index in
    let long : j < length bs = search rules in
    let lower : at bs j < c.args.self.now.degree = c.requires.places j c.loop-place-test.true in
    let size : length w ≡ 16 = c.loop-place.invariant.0 in
    let below : t + at bs j < n = omega arith in (
      length-set w _ _ ∙ size,
      cleared-stay n _ _ w below c.loop-place.invariant.1,
      puts-next t _ j bs w long ∙ c.loop-place.invariant.2,
    )

pub loop-top-preserved : goal.loop-top-preserved
loop-top-preserved g c =
    let bs = c.args.self.now.places in
    let w = c.loop-top.w in
    let u = c.loop-place.w in
    let n : ℕ = c.loop-top.top - 1 in
    let k = c.args.self.now.degree in
    let last : length bs ≤ c.loop-place.place-index = search rules in
    let whole : n - k + k ≡ n = omega arith in
    let next : suc n ≡ c.loop-top.top = omega arith in
    let size : length w ≡ 16 = c.loop-top.invariant.0 in
    let within : Within k bs = λ i h. c.requires.places i (search rules) in
    let room : n < length w = omega arith in
    let spread : u ≡ puts (n - k) (at w n) bs (set w n 0) = sym (puts-none _ _ _ bs u last) ∙ c.loop-place.invariant.2 in (
      c.loop-place.invariant.0,
      c.loop-place.invariant.1,
      λ v d a r. ap (value_total v d n) spread ∙ fold-cleared v a d k (n - k) n bs w r within whole room
          ∙ ap (λ (i : ℕ). value_total v d i w) next ∙ c.loop-top.invariant.2 v d a r,
    )

pub returns : goal.returns
returns g c =
    let n = c.loop-top.top in
    let w = c.loop-top.w in
    let rest : 8 ≡ 8 - n + n = omega arith in
    λ v d a r.
    (ap (λ (i : ℕ). value_total v d i w) rest ∙ total-zeros v a d n (8 - n) w c.loop-top.invariant.1 ∙ c.loop-top.invariant.2 v d a r)
