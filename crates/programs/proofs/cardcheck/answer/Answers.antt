-- `programs::cardcheck::answer` meets its contract. Assumes nothing.
use Rattle.field.proofs.Base.{rules, ap, inl, inr, arith}
use Rattle.card.specs.Checked.{ok_line}
use Rattle.programs.specs.declared.output.Output.{Output}
use Rattle.programs.proofs.Batches.{asked-yes, asked-no}
use Rattle.programs.proofs.Checking.{line-writable, line-found, line_ok, says-found, says-ok, answers-failed, answers-line, answers-nothing}
use Rattle.programs.proofs.cardcheck.answer.Goals as goal

pub returns-then-failed : goal.returns-then-failed
returns-then-failed c =
    let o = c.new-o in
    rw c.with_status.ensures (answers-failed c.requires o.result (ap (λ (x : Output). x.written) o.ensures) (asked-yes c.failed.ensures (search rules)))

pub write_line-requires : goal.write_line-requires
write_line-requires c =
    let o = c.new-o in (
      line-writable o.result c.args.line.now (ap (λ (x : Output). x.written) o.ensures) (ap (λ (x : Output). x.ok) o.ensures) c.requires.short,
      line-found c.requires (asked-no c.failed.ensures (search rules)) (search rules),
    )

pub returns-then-found : goal.returns-then-found
returns-then-found c =
    let o = c.new-o in
    rw c.with_status-then-found.ensures
    (answers-line c.requires (asked-no c.failed.ensures (search rules)) o.result c.write_line.result c.args.line.now
    (ap (λ (x : Output). x.written) o.ensures) (inl (search rules)) (says-found c.requires (search rules)) c.write_line.ensures)

pub write_line-requires-then-ended : goal.write_line-requires-then-ended
write_line-requires-then-ended c =
    let o = c.new-o in (
      line-writable o.result ok_line (ap (λ (x : Output). x.written) o.ensures) (ap (λ (x : Output). x.ok) o.ensures) (omega arith),
      line_ok c.requires (asked-no c.failed.ensures (search rules)) (search rules) (asked-yes c.ended.ensures (search rules)),
    )

pub returns-then-ended : goal.returns-then-ended
returns-then-ended c =
    let o = c.new-o in
    rw c.with_status-then-ended.ensures
    (answers-line c.requires (asked-no c.failed.ensures (search rules)) o.result c.write_line-then-ended.result ok_line
    (ap (λ (x : Output). x.written) o.ensures) (inr (asked-yes c.ended.ensures (search rules))) (says-ok c.requires (search rules))
    c.write_line-then-ended.ensures)

pub returns : goal.returns
returns c =
    let o = c.new-o in
    rw c.with_status-2.ensures
    (answers-nothing c.requires (asked-no c.failed.ensures (search rules)) o.result (ap (λ (x : Output). x.written) o.ensures) (search rules)
    (asked-no c.ended.ensures (search rules)))
