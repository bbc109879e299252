-- A listing batch by batch. Assumes nothing.
use Rattle.std.specs.Prelude.{◌≡◌, true, ℕ, ◌*◌, ◌≤◌, length}
use Rattle.card.specs.declared.Progress.{Progress}
use Rattle.card.specs.Record.{record_size}
use Rattle.card.specs.Listing.{part_lines, part_progress, most_records, start}
use Rattle.programs.specs.declared.turn.Turn.{Turn}
use Rattle.programs.specs.inner.Turns.{can_go_on, TookAll}

-- some bytes were listed, all that were read: n at most, and just n where the card may go on
pub record ListsSome (n : ℕ) (t : Turn Progress) : Type 0 where
  pub took : TookAll part_progress n start t.counts t.input
  pub text : t.output.ok ≡ true → t.output.written ≡ length (part_lines start took.came.bytes)

-- the listing has stopped before the last lines: where it could go on, 1,000,000 records are listed
pub record ListsBatches (t : Turn Progress) : Type 0 where
  pub n : ℕ
  pub lists : ListsSome n t
  pub most : n ≤ most_records * record_size
  pub stopped : can_go_on t ≡ true → n ≡ most_records * record_size
