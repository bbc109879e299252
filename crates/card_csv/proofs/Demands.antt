-- The demands of specs/Demands.antt, each under its name in small letters. Assumes nothing.
use Rattle.field.proofs.Base.{ap, ◌∙◌}
use Rattle.card.proofs.Folding.{in_parts as over-parts}
use Rattle.card_csv.specs.Text.{slot_tallied, sheets_text}
use Rattle.card_csv.specs.Making.{card_of}
use Rattle.card_csv.specs.Demands.{InParts, LineSheet, LineReadBack, ShortReadBack, RecordMade, RecordDay, CanonicalPrinted, CardMadeAgain, TextPrintedAgain}
use Rattle.card_csv.proofs.SheetLines.{lines-in-parts}
use Rattle.card_csv.proofs.SheetRecords.{made-sheet, record-day as day-of-record}
use Rattle.card_csv.proofs.ReadBack.{full_back, short_back}
use Rattle.card_csv.proofs.LineSheets.{read-sheet}
use Rattle.card_csv.proofs.ThereAndBack.{canonical-printed as printed, canonical-read}

pub in_parts : InParts
in_parts a b j whole s = (lines-in-parts a b j whole s, over-parts slot_tallied a b j whole s)

-- ---- a line there and back

pub line-sheet : LineSheet
line-sheet = read-sheet

pub line-read-back : LineReadBack
line-read-back n k ss S = full_back ss S n k

pub short-read-back : ShortReadBack
short-read-back = short_back

pub record-made : RecordMade
record-made = made-sheet

pub record-day : RecordDay
record-day = day-of-record

-- ---- a card there and back

pub canonical-printed : CanonicalPrinted
canonical-printed = printed

pub card-made-again : CardMadeAgain
card-made-again sheets A = ap card_of (printed sheets A) ∙ canonical-read sheets A

pub text-printed-again : TextPrintedAgain
text-printed-again sheets A = ap sheets_text (canonical-read sheets A) ∙ printed sheets A
