-- `report::day::read_restored` meets its contract. Assumes nothing.
use Rattle.std.proofs.Common.{Err}
use Rattle.field.proofs.Base.{rules, ◌≡◌}
use Rattle.report.proofs.Days.{restored-read, restored-refused}
use Rattle.report.proofs.day.read_restored.Goals as goal

pub returns : goal.returns
returns c =
    let n = c.word_length-end in
    restored-read c.args.bytes.now c.requires n.result n.ensures c.args.changed c.ask_content.result c.ask_content.ensures
    (search rules) _ c.copy_from_slice.ensures.after

pub returns-in_err-ask_content : goal.returns-in_err-ask_content
returns-in_err-ask_content c =
    let n = c.word_length-end in
    let r : c.from_residual.result ≡ Err c.in_err-ask_content.field-0.0 = search rules in
    restored-refused c.args.bytes.now c.requires n.result n.ensures c.args.changed c.ask_content.result c.ask_content.ensures _
    (search rules) _ r
