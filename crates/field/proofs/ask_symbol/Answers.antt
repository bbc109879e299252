-- `field::ask_symbol` meets its contract. Assumes nothing.
use Rattle.field.proofs.Base.{rules}
use Rattle.field.proofs.Ask.{refuse-width, pass-symbol, refuse-symbol}
use Rattle.field.proofs.ask_symbol.Goals as goal

pub returns-then-q-eq0 : goal.returns-then-q-eq0
returns-then-q-eq0 c = search (rules, refuse-width)

pub returns-then-a-q : goal.returns-then-a-q
returns-then-a-q c = search (rules, pass-symbol)

pub returns-else-a-q : goal.returns-else-a-q
returns-else-a-q c = search (rules, refuse-symbol)
