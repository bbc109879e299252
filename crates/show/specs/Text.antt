-- What every text here is made of. Assumes nothing.
use Rattle.std.specs.Prelude.{List, [], ◌∷◌, ◌++◌, ℕ, zero, suc}
use Rattle.code.specs.Word.{at}
use Rattle.card.specs.Listing.{bytes_of, decimal, newline}
use Rattle.sheet.specs.Sheet.{pump_at}
use Rattle.report.specs.Window.{date_of}
use Rattle.report.specs.Table.{date_text}

-- a label, and a number behind it
abbrev pub labelled : List ℕ → ℕ → List ℕ
labelled label n = label ++ decimal n

-- the texts f 0 to f (n - 1), one behind the other
unfoldable pub texts : (ℕ → List ℕ) → ℕ → List ℕ
texts f zero = []
texts f (suc n) = texts f n ++ f n

-- the date and the pump of a sheet
unfoldable pub dated_lines : List ℕ → List ℕ
dated_lines ss = bytes_of "date " ++ (date_text (date_of ss) ++ (labelled (bytes_of "\npump ") (at ss pump_at) ++ newline ∷ []))
