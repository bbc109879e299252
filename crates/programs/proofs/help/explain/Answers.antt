-- `programs::help::explain` meets its contract. Assumes nothing.
use Rattle.programs.proofs.Roles.{explained-undone}
use Rattle.programs.proofs.help.explain.Goals as goal

pub returns-in-Help : goal.returns-in-Help
returns-in-Help c = rw c.in-Help.is c.print.ensures

pub returns-in-Version : goal.returns-in-Version
returns-in-Version c = rw c.in-Version.is c.print_version.ensures

pub returns-in-Wrong : goal.returns-in-Wrong
returns-in-Wrong c = explained-undone c.args.asked

pub returns-in_default : goal.returns-in_default
returns-in_default c = explained-undone c.args.asked
