-- `sheet::ask_content` meets its contract. Assumes nothing.
use Rattle.field.proofs.Base.{rules}
use Rattle.sheet.proofs.Asking.{content-pass, content-no-unused}
use Rattle.sheet.proofs.ask_content.Goals as goal

pub returns-then-all_zero : goal.returns-then-all_zero
returns-then-all_zero c = search (rules, content-pass)

pub returns-else-all_zero : goal.returns-else-all_zero
returns-else-all_zero c = search (rules, content-no-unused)
