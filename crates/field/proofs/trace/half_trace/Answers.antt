-- `field::trace::half_trace` meets its contract: the table's rule is one test that antt computes over the symbols. Assumes nothing.
use Rattle.field.proofs.Base.{◌≡◌, sym, ◌∙◌, Bool, List, [], ◌∷◌, ℕ, ◌/◌, ◌%◌, ◌<◌, arith, T, eqb, eqb→eq, get_or}
use Rattle.field.specs.inner.Operand.{arithmetic}
use Rattle.field.specs.inner.HalfTrace.{half_trace}
use Rattle.field.proofs.Check.{all, all-at}
use Rattle.field.proofs.HalfTrace.{fourth, by_squares, by-squares}
use Rattle.field.proofs.trace.half_trace.Goals as goal

entries : List ℕ
entries =
    0 ∷ 16 ∷ 18 ∷ 2 ∷ 102 ∷ 118 ∷ 116 ∷ 100 ∷ 22 ∷ 6 ∷ 4 ∷ 20 ∷ 112 ∷ 96 ∷ 98 ∷ 114 ∷ 40 ∷ 56 ∷ 58 ∷ 42 ∷ 78 ∷ 94 ∷ 92 ∷ 76 ∷ 62 ∷ 46 ∷ 44 ∷ 60 ∷ 88 ∷ 72 ∷ 74 ∷ 90 ∷
    110 ∷ 126 ∷ 124 ∷ 108 ∷ 8 ∷ 24 ∷ 26 ∷ 10 ∷ 120 ∷ 104 ∷ 106 ∷ 122 ∷ 30 ∷ 14 ∷ 12 ∷ 28 ∷ 70 ∷ 86 ∷ 84 ∷ 68 ∷ 32 ∷ 48 ∷ 50 ∷ 34 ∷ 80 ∷ 64 ∷ 66 ∷ 82 ∷ 54 ∷ 38 ∷ 36 ∷ 52 ∷ []

entry : ℕ → ℕ
entry c = get_or entries (c / 2) 0

right : ℕ → Bool
right c = eqb (entry c) (by_squares c)

rule : T (all right 128)
unfolding entries entry right arithmetic by_squares fourth
rule = tt

entry-right : (c : ℕ) → c < 128 → entry c ≡ half_trace c
unfolding right
entry-right c h = eqb→eq (entry c) (by_squares c) (all-at right 128 rule c h) ∙ sym (by-squares c h)

pub returns : goal.returns
unfolding entries entry
returns c = entry-right (c.args.c % 128) (omega arith)
