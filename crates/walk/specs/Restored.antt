-- The slots of a card, each restored alone. Assumes nothing.
use Rattle.std.specs.Prelude.{List, [], ◌++◌, ℕ, ◌*◌, take, drop}
use Rattle.card.specs.Record.{record_size, record_written, record_written_up_to}
use Rattle.card.specs.Slots.{over_slots, appended}

-- every record restored; a blank slot is refused as a record, and stays
abbrev pub restored_card : List ℕ → List ℕ
restored_card card = over_slots (appended record_written) [] card

-- every record restored up to the reach n
abbrev pub restored_up_to : ℕ → List ℕ → List ℕ
restored_up_to n card = over_slots (appended (record_written_up_to n)) [] card

-- the k slots behind the first i
abbrev pub slots_from : ℕ → ℕ → List ℕ → List ℕ
slots_from i k card = take (k * record_size) (drop (i * record_size) card)

-- these restored in their place; what stands before and behind them is as it was
abbrev pub restored_from : ℕ → ℕ → List ℕ → List ℕ
restored_from i k card =
    take (i * record_size) card ++ (restored_card (slots_from i k card) ++ drop (k * record_size) (drop (i * record_size) card))
