-- `programs::cardstarts::report_card` meets its contract. Assumes nothing.
use Rattle.field.proofs.Base.{ap, arith}
use Rattle.programs.specs.declared.output.Output.{Output}
use Rattle.programs.proofs.Batches.{asked-yes, asked-no}
use Rattle.programs.proofs.Tabling.{tabled, tables-nothing, tables-card}
use Rattle.programs.proofs.cardstarts.report_card.Goals as goal

pub returns-then-failed : goal.returns-then-failed
returns-then-failed c =
    let f = c.failed in
    let o = c.new-o in
    let x = c.fill-input in
    let none = ap (λ (p : Output). p.written) o.ensures in
    tables-nothing x.ensures o.result none (asked-yes f.ensures c.if-failed.true) c.status_of.ensures

pub write_table-output-requires : goal.write_table-output-requires
write_table-output-requires c =
    let f = c.failed in
    let o = c.new-o in
    let x = c.fill-input in (
      record { ok = ap (λ (p : Output). p.ok) o.ensures; small = omega (arith, ap (λ (p : Output). p.written) o.ensures) },
      tabled c.requires x.ensures (asked-no f.ensures c.if-failed.false),
    )

pub returns : goal.returns
returns c =
    let f = c.failed in
    let o = c.new-o in
    let x = c.fill-input in
    let none = ap (λ (p : Output). p.written) o.ensures in
    tables-card x.ensures o.result none (asked-no f.ensures c.if-failed.false)
    c.write_table-output.ensures c.status_of-2.ensures
