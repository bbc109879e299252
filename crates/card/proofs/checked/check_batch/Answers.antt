-- `card::checked::check_batch` meets its contract. Assumes nothing.
use Rattle.field.proofs.Base.{rules, ◌≤◌, arith, length}
use Rattle.card.specs.Slots.{record_count}
use Rattle.card.proofs.Finding.{named-low, named-high, finds-none, finds-some}
use Rattle.card.proofs.checked.check_batch.Goals as goal

pub overflow_sub-k : goal.overflow_sub-k
overflow_sub-k c = search (rules, named-low)

pub overflow_mul-k : goal.overflow_mul-k
overflow_mul-k c =
    let high : c.in-Some.k ≤ record_count (length c.args.batch.now) = search (rules, named-high) in
    omega arith

pub record_from-record-requires : goal.record_from-record-requires
record_from-record-requires c =
    let high : c.in-Some.k ≤ record_count (length c.args.batch.now) = search (rules, named-high) in
    omega arith

pub overflow_add-before : goal.overflow_add-before
overflow_add-before c =
    let high : c.in-Some.k ≤ record_count (length c.args.batch.now) = search (rules, named-high) in
    omega arith

pub returns-in-None : goal.returns-in-None
returns-in-None c = search (rules, finds-none)

pub returns-in-Some : goal.returns-in-Some
returns-in-Some c = search (rules, finds-some)
