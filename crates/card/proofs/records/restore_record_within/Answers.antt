-- `card::records::restore_record_within` meets its contract. Assumes nothing.
use Rattle.std.proofs.Common.{Err}
use Rattle.field.proofs.Base.{rules, ◌≡◌, refl}
use Rattle.card.proofs.Recording.{restores-refused}
use Rattle.card.proofs.records.restore_record_within.Goals as goal

pub returns-in_err-ask_record : goal.returns-in_err-ask_record
returns-in_err-ask_record c =
    let v = c.ask_record in
    let r : c.from_residual.result ≡ Err c.in_err-ask_record.field-0.0 = search rules in
    restores-refused c.args.bytes.now _ v.result _ v.ensures (search rules) _ r _ refl
