-- `programs::cardcompare::refusal_of` meets its contract. Assumes nothing.
use Rattle.programs.proofs.Comparing.{names-controller, names-cupboard, names-sheets}
use Rattle.programs.proofs.cardcompare.refusal_of.Goals as goal

pub returns-in-Err : goal.returns-in-Err
returns-in-Err c =
    let a = c.args in
    names-controller a.a.now a.b.now a.q _ c.answer_of.ensures _ c.in-Err.is

pub returns-in-Err-answer_of : goal.returns-in-Err-answer_of
returns-in-Err-answer_of c =
    let a = c.args in
    names-cupboard a.a.now a.b.now a.q _ c.answer_of.ensures _ c.in-Ok.is _ c.answer_of-in-Ok.ensures _ c.in-Err-answer_of.is

pub returns-in-Ok-answer_of : goal.returns-in-Ok-answer_of
returns-in-Ok-answer_of c =
    let a = c.args in
    names-sheets a.a.now a.b.now a.q _ c.answer_of.ensures _ c.in-Ok.is _ c.answer_of-in-Ok.ensures _ c.in-Ok-answer_of.is
