-- The part of a comparison, by its offset and size. Assumes nothing.
use Rattle.std.proofs.Common.{Ok, Result}
use Rattle.field.proofs.Base.{◌≡◌, sym, ap, ◌∙◌, subst, Bool, true, false, cond, List, [], ℕ, ◌-◌, ◌*◌, ◌≤◌, ◌<◌, arith, eqb, length, take, drop}
use Rattle.field.specs.Question.{Outcome, accepted}
use Rattle.field.specs.declared.Question.{Question}
use Rattle.card.specs.Record.{record_size}
use Rattle.card.specs.Slots.{record_count, record_at}
use Rattle.card.proofs.Numbering.{number-low, number-high}
use Rattle.report.specs.Day.{has_record, slot_of}
use Rattle.report.specs.Compare.{choice, compare_of, part_of, compare_part, TellsSize, TellsPart}
use Rattle.report.specs.declared.compare.Side.{Side}
use Rattle.report.specs.declared.compare.Side.TheVariants.{Controller, Cupboard}
use Rattle.report.specs.declared.compare.PartTold.{PartTold}
use Rattle.report.proofs.Days.{is-sheet}
use Rattle.report.proofs.Demands.{compare-accepts}
use Rattle.exports.specs.Part.{part_offset, part_size}
use Rattle.exports.specs.Demands.{PartFound}

-- a number of a record of the card: the record's first byte is one of the card's
pub record Inside (card : List ℕ) (n : ℕ) : Type 0 where
  pub low : 1 ≤ n
  pub high : (n - 1) * record_size < length card

inside : (card : List ℕ) (n : ℕ) → has_record card n ≡ true → Inside card n
inside card n h =
    let low = number-low (record_count (length card)) n h in
    let high = number-high (record_count (length card)) n h in
    record { low = low; high = omega arith }

-- the part that is handed back is a whole record
part-size : (c : List ℕ) (i : ℕ) (d : List ℕ) (j w : ℕ) → compare_of c i d j ≡ accepted w → length (compare_part c i d j) ≡ record_size
part-size c i d j w e = ap (λ (o : Outcome). length (part_of o (slot_of c i) (slot_of d j))) e ∙ go (eqb w 1)
  where
    go : (b : Bool) → length (cond b (slot_of c i) (slot_of d j)) ≡ record_size
    go true = let G = (compare-accepts c i d j w).0 e in (is-sheet (slot_of c i) G.k G.ss G.controller).size
    go false = let G = (compare-accepts c i d j w).0 e in (is-sheet (slot_of d j) G.l G.ts G.cupboard).size

-- r is what the comparison tells, and x stands in it: the choice, and the size of the part
module _ (c : List ℕ) (i : ℕ) (d : List ℕ) (j : ℕ) (r : Result PartTold Question) (T : TellsPart c i d j r) (x : PartTold) (e : r ≡ Ok x) where
  told : TellsSize c i d j x
  told = subst (TellsPart c i d j) e T

  pub first-inside : x.choice ≡ Controller → Inside c i
  first-inside f = inside c i ((compare-accepts c i d j 1).0 (sym told.answer ∙ ap choice f)).number

  pub second-inside : x.choice ≡ Cupboard → Inside d j
  second-inside f = inside d j ((compare-accepts c i d j 2).0 (sym told.answer ∙ ap choice f)).other-number

  pub size-told : (z : ℕ) → x.size ≡ part_size (compare_of c i d j) z
  size-told z = go x.choice told.answer
    where
      by : (w : ℕ) → accepted w ≡ compare_of c i d j → x.size ≡ part_size (compare_of c i d j) z
      by w g = told.size ∙ part-size c i d j w (sym g) ∙ ap (λ (o : Outcome). part_size o z) g

      go : (side : Side) → choice side ≡ compare_of c i d j → x.size ≡ part_size (compare_of c i d j) z
      go Controller g = by 1 g
      go Cupboard g = by 2 g

-- the bytes there are the part
pub part-found : PartFound
part-found c i d j w x y e =
    ap (λ (o : Outcome). take (part_size o y) (drop (part_offset o i j x) (cond (eqb w 1) c d))) e
    ∙ go (eqb w 1)
    ∙ sym (ap (λ (o : Outcome). part_of o (slot_of c i) (slot_of d j)) e)
  where
    slot : (card : List ℕ) (n : ℕ) → has_record card n ≡ true → record_at card (n - 1) ≡ slot_of card n
    slot = λ card n h. sym (ap (λ (t : Bool). cond t (record_at card (n - 1)) []) h)

    go : (b : Bool) → take record_size (drop ((cond b i j - 1) * record_size) (cond b c d)) ≡ cond b (slot_of c i) (slot_of d j)
    go true = slot c i ((compare-accepts c i d j w).0 e).number
    go false = slot d j ((compare-accepts c i d j w).0 e).other-number
