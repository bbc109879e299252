-- The refusals that restoring a record can give: their numbers go up to 16, that of the reach. Assumes nothing.
use Rattle.std.proofs.Common.{Ok}
use Rattle.field.specs.Question.{Verdict}
use Rattle.field.proofs.Base.{◌≡◌, subst, Bool, true, false, ◌&&◌, List, ℕ, ◌≤◌, arith, eqb, leb, length}
use Rattle.field.specs.Question.{Outcome, refused, refusal, ask, after, is_width}
use Rattle.field.specs.declared.Question.{Question}
use Rattle.field.specs.declared.Question.TheVariants.{Width, Length, ErasureCount, Padding}
use Rattle.code.specs.Call.{within_of}
use Rattle.code.proofs.Demands.{refusal-numbers}
use Rattle.card.specs.Record.{erasure_bytes, record_size, width_of, count_of, erasures_of, word_of, all_are, allowed_in, asked_in}
use Rattle.card.specs.inner.Parts.{unused_of, tail_of}
use Rattle.card.specs.Record.{record_within_of, reach_of, record_of}

-- a refusal of it goes up to 16
abbrev Low : Outcome → Type 0
Low o = (n : ℕ) → o ≡ refused n → n ≤ 16

low-ask : (b : Bool) (q : Question) (v : Verdict) (o : Outcome) → refusal q ≤ 16 → Low (after v o) → Low (after (ask b q v) o)
low-ask true q v o h l = l
low-ask false q v o h l = λ n e. let same : refusal q ≡ n = cc in subst (λ (x : ℕ). x ≤ 16) same h

low_word : (m : ℕ) (w es : List ℕ) (reach : ℕ) → Low (within_of m w es reach)
low_word m w es reach n e = (refusal-numbers m w es reach n e).1

low-record : (r : List ℕ) (reach : ℕ) → Low (record_within_of r reach)
unfolding record_within_of asked_in
low-record r reach =
    low-ask (eqb (length r) record_size) Length _ _ (omega arith)
    (low-ask (is_width (width_of r)) Width _ _ (omega arith)
    (low-ask (leb (count_of r) (allowed_in erasure_bytes r)) ErasureCount _ _ (omega arith)
    (low-ask (all_are 255 (unused_of r) && all_are 0 (tail_of r)) Padding (Ok tt) _ (omega arith)
    (low_word (width_of r) (word_of r) (erasures_of r) reach))))

pub refusals-within : (r : List ℕ) (reach n : ℕ) → record_within_of r reach ≡ refused n → n ≤ 16
refusals-within r reach = low-record r reach

pub refusals : (r : List ℕ) (n : ℕ) → record_of r ≡ refused n → n ≤ 16
unfolding record_of
refusals r = refusals-within r (reach_of r)
