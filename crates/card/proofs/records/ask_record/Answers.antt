-- `card::records::ask_record` meets its contract. Assumes nothing.
use Rattle.field.proofs.Base.{◌∙◌}
use Rattle.card.specs.Record.{erasure_bytes}
use Rattle.card.proofs.Layouts.{length-no, record-asked}
use Rattle.card.proofs.records.ask_record.Goals as goal

pub returns-then-bytes-ne-RECORD : goal.returns-then-bytes-ne-RECORD
returns-then-bytes-ne-RECORD c = length-no erasure_bytes c.args.bytes.now c.if-bytes-ne-RECORD.true

pub returns : goal.returns
returns c =
    let p = c.passed in
    c.verdict_of.ensures ∙ record-asked erasure_bytes c.args.bytes.now c.if-bytes-ne-RECORD.false p.result p.ensures
