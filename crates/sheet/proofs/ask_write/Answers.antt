-- `sheet::ask_write` meets its contract. Assumes nothing.
use Rattle.field.proofs.Base.{rules}
use Rattle.sheet.proofs.Asking.{write-no-width, write-no-word, write-no-length, write-no-symbol, write-no-sheet, write-no-date, write-pass}
use Rattle.sheet.proofs.ask_write.Goals as goal

pub returns-then-q-eq0 : goal.returns-then-q-eq0
returns-then-q-eq0 c = search (rules, write-no-width)

pub returns-then-n-q : goal.returns-then-n-q
returns-then-n-q c = search (rules, write-no-word)

pub returns-then-symbols-ne-SHEET : goal.returns-then-symbols-ne-SHEET
returns-then-symbols-ne-SHEET c = search (rules, write-no-length)

pub returns-then-not-below : goal.returns-then-not-below
returns-then-not-below c = search (rules, write-no-symbol)

pub returns-then-width-ne-SHEET_WIDTH : goal.returns-then-width-ne-SHEET_WIDTH
returns-then-width-ne-SHEET_WIDTH c = search (rules, write-no-sheet)

pub returns-then-is_dated : goal.returns-then-is_dated
returns-then-is_dated c = search (rules, write-pass)

pub returns-else-is_dated : goal.returns-else-is_dated
returns-else-is_dated c = search (rules, write-no-date)
