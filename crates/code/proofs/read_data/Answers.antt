-- `code::read_data` meets its contract. Assumes nothing.
use Rattle.field.proofs.Base.{rules, ◌≡◌, ap, ◌∙◌, ◌+◌, arith, length, length-drop}
use Rattle.code.specs.Word.{checks}
use Rattle.code.proofs.calls.Answers.{reads, reads-lengths}
use Rattle.code.proofs.Loops.{part-drop}
use Rattle.code.proofs.read_data.Goals.{In_ok-ask_read_data}
use Rattle.code.proofs.read_data.Goals as goal

-- the questions are passed: five symbols more than the data's
lengths : (s : In_ok-ask_read_data) → length s.args.word.now ≡ checks + length s.args.message.now
lengths s =
    let v = s.ask_read_data in
    let a = s.args in
    reads-lengths a.width a.word.now a.message.now v.result v.ensures (search rules)

pub slice_bounds-copy-count : goal.slice_bounds-copy-count
slice_bounds-copy-count c = omega (arith, lengths (goal.at.slice_bounds-copy-count c).In_ok-ask_read_data)

pub slice_bounds-copy-start : goal.slice_bounds-copy-start
slice_bounds-copy-start c = omega (arith, lengths (goal.at.slice_bounds-copy-start c).In_ok-ask_read_data)

pub copy-requires : goal.copy-requires
copy-requires c =
    let w = c.args.word.now in
    omega (arith, lengths (goal.at.copy-requires c).In_ok-ask_read_data, length-drop checks w, ap length (part-drop checks w))

pub returns : goal.returns
returns c =
    let v = c.ask_read_data in
    let a = c.args in
    reads a.width a.word.now a.message.now v.result v.ensures _ _ (search rules)
    (c.copy.ensures ∙ part-drop checks a.word.now)

pub returns-in_err-ask_read_data : goal.returns-in_err-ask_read_data
returns-in_err-ask_read_data c =
    let v = c.ask_read_data in
    let a = c.args in
    reads a.width a.word.now a.message.now v.result v.ensures _ _ (search rules) (search rules)
