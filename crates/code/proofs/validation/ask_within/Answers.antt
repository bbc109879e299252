-- `code::validation::ask_within` meets its contract. Assumes nothing.
use Rattle.std.proofs.Common.{Ok, Err}
use Rattle.field.proofs.Base.{rules, ◌≡◌, sym, ◌∙◌, arith}
use Rattle.code.specs.Demands.{Passes}
use Rattle.code.proofs.calls.Passing.{within-stop, passes-within, longer-refused}
use Rattle.code.proofs.validation.ask_within.Goals.{After-radius_of}
use Rattle.code.proofs.validation.ask_within.Goals as goal

-- the questions before that about the reach were answered yes
passed : (s : After-radius_of) → Passes s.args.width s.args.word.now s.args.erasures.now
passed s =
    let p : s.ask_restore.result ≡ (Ok tt) = search rules in
    sym s.ask_restore.ensures ∙ p

pub returns-then-reach-radius_of : goal.returns-then-reach-radius_of
returns-then-reach-radius_of c =
    let a = c.args in
    sym (passes-within a.width a.word.now a.erasures.now a.reach (passed (goal.at.returns-then-reach-radius_of c).After-radius_of)
    (omega (arith, c.radius_of.ensures, c.if-reach-radius_of.true)))

pub returns-else-reach-radius_of : goal.returns-else-reach-radius_of
returns-else-reach-radius_of c =
    let a = c.args in
    sym (longer-refused a.width a.word.now a.erasures.now a.reach (passed (goal.at.returns-else-reach-radius_of c).After-radius_of)
    (omega (arith, c.radius_of.ensures, c.if-reach-radius_of.false)))

pub returns-in_err-ask_restore : goal.returns-in_err-ask_restore
returns-in_err-ask_restore c =
    let v = c.ask_restore in
    let a = c.args in
    let r : c.from_residual.result ≡ Err c.in_err-ask_restore.field-0.0 = search rules in
    r ∙ sym (within-stop a.width a.word.now a.erasures.now a.reach _ (sym v.ensures ∙ search rules))
