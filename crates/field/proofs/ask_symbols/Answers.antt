-- `field::ask_symbols` meets its contract. Assumes nothing.
use Rattle.field.proofs.Base.{rules}
use Rattle.field.specs.Answer.{operands}
use Rattle.field.proofs.Ask.{operands-on}
use Rattle.field.proofs.ask_symbols.Goals as goal

pub returns : goal.returns
returns c = search (rules, operands-on)

pub returns-in_err-ask_symbol : goal.returns-in_err-ask_symbol
unfolding operands
returns-in_err-ask_symbol c = search rules
