-- `programs::cardcompare::answer_of` meets its contract. Assumes nothing.
use Rattle.field.proofs.Base.{rules, sym, eqb-true, eqb-false}
use Rattle.programs.proofs.Comparing.{answer-none, answer-read, answer-refused}
use Rattle.programs.proofs.cardcompare.answer_of.Goals as goal

pub returns-then-is_empty : goal.returns-then-is_empty
returns-then-is_empty c = answer-none c.args.slot.now (eqb-true _ _ (sym c.if-is_empty.ensures))

pub returns-in_err-reading : goal.returns-in_err-reading
returns-in_err-reading c =
    answer-refused c.args.slot.now (eqb-false _ _ (sym c.if-is_empty.ensures)) c.read_day.result c.read_day.ensures c.in_err-reading.field-0.0
    c.in_err-reading.was c.from_residual.result (search rules)

pub returns : goal.returns
returns c =
    answer-read c.args.slot.now (eqb-false _ _ (sym c.if-is_empty.ensures)) c.read_day.result c.read_day.ensures c.in_ok-reading.reading
    c.in_ok-reading.was
