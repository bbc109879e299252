-- `report::row::peak_of` meets its contract. Assumes nothing.
use Rattle.field.proofs.Base.{arith, ◌∙◌, ⊎_elim}
use Rattle.report.proofs.Order.{date-less}
use Rattle.report.proofs.Counting.{peak-first, peak-higher, peak-lower, peak-earlier, peak-later}
use Rattle.report.proofs.row.peak_of.Goals as goal
use Rattle.report.proofs.row.peak_of.Goals.{else-old-new-2-via-then-old-new-2+else-lt, else-old-new-2-via-else-old-new-2}

pub returns-then-sheets-eq0 : goal.returns-then-sheets-eq0
returns-then-sheets-eq0 c =
    let a = c.args in
    ⊎_elim (peak-first a.sheets a.old a.new) (λ h. peak-higher a.sheets a.old a.new h.0 h.1) c.then-sheets-eq0.either

pub returns-then-lt : goal.returns-then-lt
returns-then-lt c =
    let a = c.args in
    peak-earlier a.sheets a.old a.new c.if-sheets-eq0.false c.if-old-new-2.true c.lt.result (c.lt.ensures ∙ date-less a.new.date a.old.date)
    c.if-lt.true

pub returns : goal.returns
returns c =
    let a = c.args in
    elim c.else-old-new-2.branch [
      | else-old-new-2-via-then-old-new-2+else-lt w ↦
          peak-later a.sheets a.old a.new c.if-sheets-eq0.false w.if-old-new-2.true w.lt.result
          (w.lt.ensures ∙ date-less a.new.date a.old.date) w.if-lt.false
      | else-old-new-2-via-else-old-new-2 w ↦
          peak-lower a.sheets a.old a.new c.if-sheets-eq0.false (omega (arith, c.if-old-new.false, w.if-old-new-2.false))
    ]
