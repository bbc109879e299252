-- `walk::Walk::step_counting` meets its contract. Assumes nothing.
use Rattle.field.proofs.Base.{rules}
use Rattle.walk.proofs.Walking.{going-low, going-high, going-within}
use Rattle.walk.proofs.Tallying.{counting-refused, counting-passed}
use Rattle.walk.proofs.Walk.step_counting.Goals as goal

pub returns-in_err-ask : goal.returns-in_err-ask
returns-in_err-ask c =
    let q = c.in_err-ask.field-0.0 in
    counting-refused _ _ _ _ _ c.ask.ensures q (search rules) _ (search rules)

pub overflow_sub-first : goal.overflow_sub-first
overflow_sub-first c = going-low _ _ _ c.ask.ensures (search rules)

pub overflow_sub-record_count : goal.overflow_sub-record_count
overflow_sub-record_count c = going-high _ _ _ c.ask.ensures (search rules) _ c.record_count.ensures

pub count_from-progress-requires : goal.count_from-progress-requires
count_from-progress-requires c = (going-within _ _ _ c.ask.ensures (search rules) _ c.record_count.ensures _ (search rules), search rules)

pub returns : goal.returns
returns c =
    counting-passed _ _ _ _ _ c.ask.ensures (search rules) _ c.record_count.ensures _ (search rules) c.count_from-progress.ensures
