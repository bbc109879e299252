-- What `cardstarts` promises. Assumes nothing.
use Rattle.std.specs.Prelude.{◌≡◌, true, false, cond, List, ℕ, ◌*◌, length}
use Rattle.card.specs.Record.{record_size}
use Rattle.card.specs.Listing.{most_records}
use Rattle.report.specs.Window.{is_window, report_of}
use Rattle.report.specs.Table.{table_text}
use Rattle.report.specs.declared.row.Window.{Window}
use Rattle.programs.specs.declared.input.Input.{Input}
use Rattle.programs.specs.declared.output.Output.{Output}
use Rattle.programs.specs.declared.answer.Answered.{Answered}
use Rattle.programs.specs.declared.status.Status.{Status}
use Rattle.programs.specs.declared.status.Status.TheVariants.{Done, NotDone}
use Rattle.programs.specs.Stream.{is_well}
use Rattle.programs.specs.Batches.{seen_all}

-- the report is that of some card, as long as what was read; where no read failed, all that is looked at was read
pub record ReportOf (w : Window) (i : Input) (report : List ℕ) : Type 0 where
  pub card : List ℕ
  pub read : i.read ≡ length card
  pub content : report ≡ report_of w card
  pub stopped : i.failed ≡ false → seen_all (most_records * record_size) i ≡ true

-- a table may be written of it
pub record Tabled (w : Window) (i : Input) (report : List ℕ) : Type 0 where
  pub window : is_window w ≡ true
  pub reports : ReportOf w i report
  pub seen : seen_all (most_records * record_size) i ≡ true

-- 0 where every read and write succeeded
abbrev pub starts_status : Input → Output → Status
starts_status i o = cond (is_well i o) Done NotDone

-- the table of the report is written, or a write failed; where a read failed, nothing is
pub record TablesCard (w : Window) (r : Answered) : Type 0 where
  pub card : List ℕ
  pub read : r.input.read ≡ length card
  pub text : r.input.failed ≡ false → r.output.ok ≡ true → r.output.written ≡ length (table_text (report_of w card))
  pub silent : r.input.failed ≡ true → r.output.written ≡ 0
  pub status : r.status ≡ starts_status r.input r.output
