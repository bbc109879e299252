-- `walk::look_into` meets its contract. Assumes nothing.
use Rattle.field.proofs.Base.{rules, arith}
use Rattle.walk.proofs.Looking.{looked-low, looked-at, looked-row, looks-refused, looks-shown}
use Rattle.walk.proofs.look_into.Goals as goal

pub overflow_sub-number : goal.overflow_sub-number
overflow_sub-number c = looked-low _ _ _ _ c.ask_look.ensures (search rules)

pub overflow_mul-number : goal.overflow_mul-number
overflow_mul-number c =
    let h = looked-at _ _ _ _ c.ask_look.ensures (search rules) in
    omega arith

pub record_from-requires : goal.record_from-requires
record_from-requires c =
    let h = looked-at _ _ _ _ c.ask_look.ensures (search rules) in
    omega arith

pub show-requires : goal.show-requires
show-requires c = looked-row _ _ _ _ c.ask_look.ensures (search rules)

pub returns : goal.returns
returns c = looks-shown _ _ _ _ c.ask_look.ensures (search rules) _ (search rules) _ _ c.show.ensures

pub returns-in_err-ask_look : goal.returns-in_err-ask_look
returns-in_err-ask_look c =
    looks-refused _ _ _ _ c.in_err-ask_look.field-0.0 c.ask_look.ensures (search rules) _ (search rules)
