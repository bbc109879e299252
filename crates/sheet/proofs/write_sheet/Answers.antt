-- `sheet::write_sheet` meets its contract. Assumes nothing.
use Rattle.field.proofs.Base.{rules}
use Rattle.sheet.proofs.Calls.{writes, writes-size}
use Rattle.sheet.proofs.write_sheet.Goals as goal

pub padded-message-requires : goal.padded-message-requires
padded-message-requires c =
    let v = c.ask_write in
    let a = c.args in
    writes-size a.width a.symbols.now a.word.now v.result v.ensures (search rules)

pub returns : goal.returns
returns c =
    let v = c.ask_write in
    let a = c.args in
    writes a.width a.symbols.now a.word.now v.result v.ensures (search rules) _
    c.padded-message.ensures _ _ c.encode.ensures
