-- `code::encode` meets its contract. Assumes nothing.
use Rattle.field.proofs.Base.{rules}
use Rattle.code.proofs.calls.Answers.{slices-width, slices-data, slices-lengths, slices-symbols, encodes}
use Rattle.code.proofs.encode.Goals as goal

pub write_codeword-requires : goal.write_codeword-requires
write_codeword-requires c =
    let v = c.ask_slices in
    let a = c.args in
    slices-lengths a.width _ _ a.message.now v.result v.ensures (search rules)

pub returns : goal.returns
returns c =
    let v = c.ask_slices in
    let a = c.args in
    let m = a.width in
    let ds = a.message.now in
    encodes m ds a.word.now _ v.result v.ensures _ (search rules)
    (c.write_codeword.ensures (slices-width m _ _ ds v.result v.ensures (search rules))
    (slices-data m _ _ ds v.result v.ensures (search rules)) (slices-symbols m _ _ ds v.result v.ensures (search rules)))

pub returns-in_err-ask_slices : goal.returns-in_err-ask_slices
returns-in_err-ask_slices c =
    let v = c.ask_slices in
    let a = c.args in
    encodes a.width a.message.now a.word.now _ v.result v.ensures _ (search rules) (search rules)
