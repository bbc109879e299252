-- `code::syndromes` meets its contract. Assumes nothing.
use Rattle.std.proofs.Common.{Ok}
use Rattle.field.proofs.Base.{rules, ◌≡◌, sym, ◌∙◌}
use Rattle.code.specs.Demands.{Passes}
use Rattle.code.proofs.calls.Passing.{given}
use Rattle.code.proofs.restoring.Repairing.{workable, gives-passed}
use Rattle.code.proofs.syndromes.Goals.{In_ok-ask_restore}
use Rattle.code.proofs.syndromes.Goals as goal

-- what the questions passed say of the word and the erasures
passed : (s : In_ok-ask_restore) → Passes s.args.width s.args.word.now s.args.erasures.now
passed s =
    let p : s.ask_restore.result ≡ (Ok tt) = search rules in
    sym s.ask_restore.ensures ∙ p

pub of_erasures-requires : goal.of_erasures-requires
of_erasures-requires c =
    let a = c.args in workable a.width a.word.now a.erasures.now (passed (goal.at.of_erasures-requires c).In_ok-ask_restore)

pub returns : goal.returns
returns c =
    let s = c.of_erasures in
    let a = c.args in
    let p = passed (goal.at.returns c).In_ok-ask_restore in
    let g = given a.width a.word.now a.erasures.now p in
    gives-passed a.width a.word.now a.erasures.now p s.result s.ensures.1 (s.ensures.2 g.width g.lent)
