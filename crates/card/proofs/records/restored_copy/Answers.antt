-- `card::records::restored_copy` meets its contract. Assumes nothing.
use Rattle.field.proofs.Base.{rules, ◌≡◌, subst, sym}
use Rattle.std.proofs.Common.{Err}
use Rattle.card.specs.Record.{RestoresCopy}
use Rattle.field.specs.declared.Question.TheVariants.{Length}
use Rattle.card.proofs.Recording.{short-refused, row-refused, copied-yes, copied-no}
use Rattle.card.proofs.records.restored_copy.Goals as goal

pub returns-then-bytes-ne-RECORD : goal.returns-then-bytes-ne-RECORD
returns-then-bytes-ne-RECORD c =
    let r = c.args.bytes.now in
    copied-no r Length (short-refused r c.if-bytes-ne-RECORD.true)

pub returns : goal.returns
returns c = copied-yes c.args.bytes.now _ c.copied-row.ensures _ _ c.restore_record.ensures _ (search rules)

pub returns-in_err-changed : goal.returns-in_err-changed
returns-in_err-changed c =
    let r = c.args.bytes.now in
    let q = c.in_err-changed.field-0.0 in
    let p : c.from_residual.result ≡ Err q = search rules in
    subst (RestoresCopy r) (sym p) (copied-no r q (row-refused r _ c.copied-row.ensures _ _ c.restore_record.ensures q (search rules)))
