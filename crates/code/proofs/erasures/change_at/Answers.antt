-- `code::erasures::change_at` meets its contract. Assumes nothing.
use Rattle.field.proofs.Base.{◌≡◌, refl, ◌∙◌, eq-eqb, Bool, true, false, cond, ℕ}
use Rattle.code.specs.Erasure.{member}
use Rattle.code.proofs.Questions.{member-any}
use Rattle.code.proofs.restoring.Repairing.{change-other}
use Rattle.code.proofs.erasures.change_at.Goals.{then-x-y, else-x-y}
use Rattle.code.proofs.erasures.change_at.Goals as goal

cond-same : (t : Bool) → ◌≡◌ {A = ℕ} 0 (cond t 0 0)
cond-same true = refl
cond-same false = refl

pub returns : goal.returns
returns c =
    let a = c.args in
    let erased = member a.p.0 a.erasures.now in
    c.from.ensures ∙ elim c.if-x-y.branch [
      | then-x-y w ↦ rw w.from-is (change-other erased w.contains.result a.x a.y (w.contains.ensures.value ∙ member-any a.p.0 a.erasures.now) w.if-x-y.true)
      | else-x-y w ↦ rw (w.from-is, eq-eqb a.x a.y w.if-x-y.false) (cond-same erased)
    ]
