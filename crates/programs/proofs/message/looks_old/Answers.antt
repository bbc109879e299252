-- `programs::message::looks_old` meets its contract. Assumes nothing.
use Rattle.field.proofs.Base.{◌%◌, ne_eqb}
use Rattle.programs.proofs.message.looks_old.Goals as goal

pub returns-then-bytes-ne0 : goal.returns-then-bytes-ne0
returns-then-bytes-ne0 c = rw (ne_eqb (c.args.bytes % 139) 0 c.if-bytes-ne0.true)

pub returns-else-bytes-ne0 : goal.returns-else-bytes-ne0
returns-else-bytes-ne0 c =
    let h = c.if-bytes-ne0.false in rw h
