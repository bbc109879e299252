-- `programs::arguments::reach_in` meets its contract. Assumes nothing.
use Rattle.field.proofs.Base.{◌≡◌, ap, List, [], ◌∷◌, ℕ, get_or, length, arith}
use Rattle.std.proofs.lemmas.Slice.Eq.{text_from_reads}
use Rattle.code.specs.Call.{same_bytes}
use Rattle.programs.specs.Arguments.{reach_in}
use Rattle.programs.proofs.Roles.{reach_named}
use Rattle.programs.proofs.arguments.reach_in.Goals as goal

pub returns-in-48 : goal.returns-in-48
unfolding reach_in same_bytes
returns-in-48 c = let e : c.args.text.now ≡ 48 ∷ [] = text_from_reads c.args.text.now (48 ∷ []) (omega arith) (omega arith, tt) in rw e

pub returns-in-49 : goal.returns-in-49
unfolding reach_in same_bytes
returns-in-49 c = let e : c.args.text.now ≡ 49 ∷ [] = text_from_reads c.args.text.now (49 ∷ []) (omega arith) (omega arith, tt) in rw e

pub returns-in-50 : goal.returns-in-50
unfolding reach_in same_bytes
returns-in-50 c = let e : c.args.text.now ≡ 50 ∷ [] = text_from_reads c.args.text.now (50 ∷ []) (omega arith) (omega arith, tt) in rw e

pub returns-in_default : goal.returns-in_default
returns-in_default c =
    reach_named c.args.text.now (λ d low high e. omega (arith, ap length e, ap (λ (t : List ℕ). get_or t 0 0) e))

pub returns-in_default-2 : goal.returns-in_default-2
returns-in_default-2 c =
    reach_named c.args.text.now (λ d low high e. omega (arith, ap length e, ap (λ (t : List ℕ). get_or t 0 0) e))

pub returns-in_default-3 : goal.returns-in_default-3
returns-in_default-3 c =
    reach_named c.args.text.now (λ d low high e. omega (arith, ap length e, ap (λ (t : List ℕ). get_or t 0 0) e))
