-- `programs::seek::number_in` meets its contract. Assumes nothing.
use Rattle.field.proofs.Base.{◌∙◌}
use Rattle.programs.proofs.Seeking.{no-digit, too_many, one_more, number_refused, number-on, number-all, counted_some, counted_none}
use Rattle.programs.proofs.seek.number_in.Goals.{then-not-is_ascii_digit-via-then-not-is_ascii_digit, then-not-is_ascii_digit-via-else-not-is_ascii_digit+then-v-gt-MOST_BEFORE}
use Rattle.programs.proofs.seek.number_in.Goals as goal

pub returns-then-not-is_ascii_digit : goal.returns-then-not-is_ascii_digit
returns-then-not-is_ascii_digit c =
    let turn = c.loop-b in
    let refused = number_refused c.args.text.now turn.v turn.b-index turn.invariant c.loop-b-test.true in
    elim c.then-not-is_ascii_digit.branch [
      | then-not-is_ascii_digit-via-then-not-is_ascii_digit w ↦ refused (no-digit _ _ w.if-not-is_ascii_digit.ensures.value)
      | then-not-is_ascii_digit-via-else-not-is_ascii_digit+then-v-gt-MOST_BEFORE w ↦ refused (too_many _ _ w.if-v-gt-MOST_BEFORE.true)
    ]

pub loop-b-preserved : goal.loop-b-preserved
loop-b-preserved c =
    let turn = c.loop-b in
    number-on c.args.text.now turn.v turn.b-index turn.invariant c.loop-b-test.true
    (one_more _ _ c.if-not-is_ascii_digit.ensures.value c.if-v-gt-MOST_BEFORE.false)

pub returns-then-v-gt0 : goal.returns-then-v-gt0
returns-then-v-gt0 c =
    let turn = c.loop-b in
    counted_some turn.v c.if-v-gt0.true ∙ number-all c.args.text.now turn.v turn.b-index turn.invariant c.loop-b-test.false

pub returns-else-v-gt0 : goal.returns-else-v-gt0
returns-else-v-gt0 c =
    let turn = c.loop-b in
    counted_none turn.v c.if-v-gt0.false ∙ number-all c.args.text.now turn.v turn.b-index turn.invariant c.loop-b-test.false
