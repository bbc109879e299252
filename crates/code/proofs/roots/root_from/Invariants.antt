-- `code::roots::root_from` meets its contract. Assumes nothing.
use Rattle.field.proofs.Base.{◌≡◌, true, ℕ}
use Rattle.field.specs.Question.{is_width}
use Rattle.code.specs.inner.Scan.{Carried}
use Rattle.code.proofs.finding.Scanning.{Scanning}
use Rattle.code.proofs.roots.root_from.Given as goal

abbrev pub invariant-loop-i : goal.invariant-loop-i
invariant-loop-i l = (a b : ℕ) → is_width l.width ≡ true → Carried l.width a b l.initial.i l.square l.linear
    → Scanning l.width a b l.constant l.initial.i l.i l.d l.e
