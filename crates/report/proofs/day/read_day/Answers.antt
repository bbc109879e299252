-- `report::day::read_day` meets its contract. Assumes nothing.
use Rattle.field.proofs.Base.{rules, ◌≡◌, ◌∙◌}
use Rattle.std.proofs.Common.{Err}
use Rattle.report.proofs.Days.{copied-whole, day-restored, day-refused}
use Rattle.report.proofs.day.read_day.Goals as goal

pub read_restored-requires : goal.read_restored-requires
read_restored-requires c =
    let v = c.restored_copy in copied-whole c.args.bytes.now v.result v.ensures _ c.in_ok-restored.was

pub returns : goal.returns
returns c =
    let v = c.restored_copy in
    c.read_restored.ensures ∙ day-restored c.args.bytes.now v.result v.ensures _ c.in_ok-restored.was

pub returns-in_err-restored : goal.returns-in_err-restored
returns-in_err-restored c =
    let v = c.restored_copy in
    let r : c.from_residual.result ≡ Err c.in_err-restored.field-0.0 = search rules in
    day-refused c.args.bytes.now v.result v.ensures _ (search rules) _ r
