-- Restoring at a reach, and what a bay pays for it. Assumes nothing.
use Rattle.std.specs.Prelude.{Ok, Err, Result, Option, ◌≡◌, cond, List, ℕ}
use Rattle.field.specs.declared.Question.{Question}
use Rattle.field.specs.declared.Question.TheVariants.{Rewrite}
use Rattle.code.specs.Call.{repair}
use Rattle.dock.specs.declared.Rewrites.{Rewrites}
use Rattle.dock.specs.Dock.{answer_at, content_at, allowed, remaining}

-- what restoring does
pub record RestoresAt (reach : Option ℕ) (old : List ℕ) (r : Result ℕ Question) (new : List ℕ) : Type 0 where
  pub answer : repair r ≡ answer_at reach old
  pub content : new ≡ content_at reach old

-- what is left to a bay that passed, of a restoring that was accepted and gives `new`, or the refusal, and the record then
pub record Settles (left : Rewrites) (bay : ℕ) (old new : List ℕ) (r : Result Rewrites Question) (final : List ℕ) : Type 0 where
  pub rest : r ≡ cond (allowed left bay old new) (Ok (remaining left bay old new)) (Err Rewrite)
  pub content : final ≡ cond (allowed left bay old new) new old
