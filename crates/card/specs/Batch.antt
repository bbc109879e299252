-- Listing a card in batches, into a buffer. Assumes nothing.
use Rattle.std.specs.Prelude.{ℕ, ◌*◌, ◌^◌}
use Rattle.card.specs.Record.{record_size}

-- a batch has at most so many slots
abbrev pub batch_records : ℕ
batch_records = 400

-- and at most so many bytes
abbrev pub batch_size : ℕ
batch_size = batch_records * record_size

-- and no card has more batches: a program's loop over them must end
abbrev pub most_batches : ℕ
most_batches = 2 ^ 46
