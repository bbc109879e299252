-- The room for the text of two sheets side by side, and what it is made from. Assumes nothing.
use Rattle.std.specs.Prelude.{Ok, ◌≡◌, true, List, ℕ, ◌+◌, ◌*◌, ◌≤◌, length}
use Rattle.card.specs.Card.{is_accepted}
use Rattle.card.specs.Record.{record_size}
use Rattle.sheet.specs.Sheet.{quarters}
use Rattle.card_csv.specs.inner.Room.{clock_size}
use Rattle.report.specs.Compare.{Compares}
use Rattle.report.specs.declared.compare.Comparison.{Comparison}
use Rattle.show.specs.Comparison.{slots_outcome}
use Rattle.show.specs.inner.Room.{longest_digits, longest_dated}

-- ---- room

-- the line of the starts
abbrev pub longest_starts : ℕ
longest_starts = 31 + 2 * longest_digits

-- the line of the totals
abbrev pub longest_totals : ℕ
longest_totals = 60 + 3 * longest_digits

-- the line of the choice
abbrev pub longest_chosen : ℕ
longest_chosen = 19

-- the line of a quarter hour
abbrev pub longest_quarter : ℕ
longest_quarter = 24 + clock_size + 2 * longest_digits

-- the whole text
abbrev pub longest_comparison : ℕ
longest_comparison = longest_dated + longest_starts + longest_totals + longest_chosen + quarters * longest_quarter

-- ---- two slots

-- the comparison of the slots a and b, each at most a record long, which was accepted
pub record AcceptedSlots (a b : List ℕ) (x : Comparison) : Type 0 where
  pub controller-short : length a ≤ record_size
  pub cupboard-short : length b ≤ record_size
  pub compares : Compares a 1 b 1 (Ok x)
  pub well : is_accepted (slots_outcome a b) ≡ true
