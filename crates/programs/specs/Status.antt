-- How a program ends: the number that the process ends with. Assumes nothing.
use Rattle.std.specs.Prelude.{ℕ}
use Rattle.programs.specs.declared.status.Status.{Status}
use Rattle.programs.specs.declared.status.Status.TheVariants.{Done, AnsweredNo, NotDone}

-- 0 done; 1 done, and what was asked is answered no; 2 not done
abbrev pub status_number : Status → ℕ
status_number Done = 0
status_number AnsweredNo = 1
status_number NotDone = 2
