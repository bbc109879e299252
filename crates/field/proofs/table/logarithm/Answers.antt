-- `field::table::logarithm` meets its contract: the table's rule is one test that antt computes over its entries. Assumes nothing.
use Rattle.field.proofs.Base.{◌≡◌, sym, ◌∙◌, Bool, ◌&&◌, List, [], ◌∷◌, ℕ, ◌%◌, ◌<◌, arith, T, eqb, ltb, eqb→eq, lit<, get_or}
use lib.Dec.{ltb→lt}
use Rattle.field.specs.Field.{power, α}
use Rattle.field.specs.inner.Operand.{arithmetic}
use Rattle.field.specs.inner.Bytes.{unit_for}
use Rattle.field.proofs.Bytes.{unit-low}
use Rattle.field.proofs.Check.{and_left, and_right, all, all-at}
use Rattle.field.proofs.Widths.{doubles, doubles-power}
use Rattle.field.proofs.table.logarithm.Goals as goal

entries : List ℕ
entries =
    0 ∷ 0 ∷ 1 ∷ 31 ∷ 2 ∷ 62 ∷ 32 ∷ 103 ∷ 3 ∷ 7 ∷ 63 ∷ 15 ∷ 33 ∷ 84 ∷ 104 ∷ 93 ∷ 4 ∷ 124 ∷ 8 ∷ 121 ∷ 64 ∷ 79 ∷ 16 ∷ 115 ∷ 34 ∷ 11 ∷ 85 ∷ 38 ∷ 105 ∷ 46 ∷ 94 ∷ 51 ∷
    5 ∷ 82 ∷ 125 ∷ 60 ∷ 9 ∷ 44 ∷ 122 ∷ 77 ∷ 65 ∷ 67 ∷ 80 ∷ 42 ∷ 17 ∷ 69 ∷ 116 ∷ 23 ∷ 35 ∷ 118 ∷ 12 ∷ 28 ∷ 86 ∷ 25 ∷ 39 ∷ 57 ∷ 106 ∷ 19 ∷ 47 ∷ 89 ∷ 95 ∷ 71 ∷ 52 ∷ 110 ∷
    6 ∷ 14 ∷ 83 ∷ 92 ∷ 126 ∷ 30 ∷ 61 ∷ 102 ∷ 10 ∷ 37 ∷ 45 ∷ 50 ∷ 123 ∷ 120 ∷ 78 ∷ 114 ∷ 66 ∷ 41 ∷ 68 ∷ 22 ∷ 81 ∷ 59 ∷ 43 ∷ 76 ∷ 18 ∷ 88 ∷ 70 ∷ 109 ∷ 117 ∷ 27 ∷ 24 ∷ 56 ∷
    36 ∷ 49 ∷ 119 ∷ 113 ∷ 13 ∷ 91 ∷ 29 ∷ 101 ∷ 87 ∷ 108 ∷ 26 ∷ 55 ∷ 40 ∷ 21 ∷ 58 ∷ 75 ∷ 107 ∷ 54 ∷ 20 ∷ 74 ∷ 48 ∷ 112 ∷ 90 ∷ 100 ∷ 96 ∷ 97 ∷ 72 ∷ 98 ∷ 53 ∷ 73 ∷ 111 ∷ 99 ∷ []

entry : ℕ → ℕ
entry a = get_or entries a 0

right : ℕ → Bool
right a = ltb (entry a) 127 && eqb (doubles 7 (entry a)) (unit_for a)

rule : T (all right 128)
unfolding entries entry right unit_for arithmetic doubles
rule = tt

entry-right : (a : ℕ) → a < 128 → (entry a < 127) × (power 7 α (entry a) ≡ unit_for a)
unfolding right
entry-right a h =
    let t = all-at right 128 rule a h in (
      ltb→lt (entry a) 127 (and_left (ltb (entry a) 127) (eqb (doubles 7 (entry a)) (unit_for a)) t),
      sym (doubles-power 7 (lit< tt) (entry a))
          ∙ eqb→eq _ _ (and_right (ltb (entry a) 127) (eqb (doubles 7 (entry a)) (unit_for a)) t),
    )

pub returns : goal.returns
unfolding entries entry
returns c =
    let a : ℕ = c.args.a in
    let e = entry-right (a % 128) (omega arith) in
    (e.0, e.1 ∙ unit-low a)
