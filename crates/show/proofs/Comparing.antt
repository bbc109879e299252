-- Two day sheets side by side as text, line by line. Assumes nothing.
use Rattle.std.proofs.Common.{Ok, Err, Result}
use Rattle.std.specs.Result.{IsOk}
use Rattle.field.proofs.Base.{◌≡◌, refl, sym, ap, ap₂, ◌∙◌, subst, Bool, true, false, cond, List, [], ◌∷◌, ℕ, ◌≤◌}
use Rattle.field.proofs.Base.{arith, eqb, length, take_all}
use Rattle.field.specs.Question.{Verdict, Outcome, accepted, refused, after}
use Rattle.field.specs.declared.Question.{Question}
use Rattle.card.specs.Card.{is_accepted}
use Rattle.card.specs.Record.{record_size}
use Rattle.card.specs.Slots.{record_count, record_at}
use Rattle.card.proofs.Numbering.{number-yes}
use Rattle.sheet.specs.Demands.{SheetSymbols}
use Rattle.report.specs.Day.{has_record, slot_of, Day, sheet, no_sheet, day_of, day_symbols}
use Rattle.report.specs.Compare.{compared_of, choice, Shows, symbols_at, numbers_asked, compare_of, part_of}
use Rattle.report.specs.declared.compare.Comparison.{Comparison}
use Rattle.report.specs.declared.day.Reading.{Reading}
use Rattle.report.specs.inner.Parts.{day_in}
use Rattle.report.proofs.Days.{is-sheet}
use Rattle.show.specs.Comparison.{beside_text, outcome_text, slots_outcome, comparison_text}
use Rattle.show.specs.inner.Comparison.{AcceptedSlots}

-- ---- two slots

-- a slot is the only one of itself
pub slot-one : (a : List ℕ) → length a ≤ record_size → slot_of a 1 ≡ a
slot-one [] h = go (has_record [] 1)
  where
    go : (b : Bool) → cond b (record_at [] 0) [] ≡ []
    go true = refl
    go false = refl
slot-one (x ∷ xs) h =
    ap (λ (b : Bool). cond b (record_at (x ∷ xs) 0) []) (number-yes (record_count (length (x ∷ xs))) 1 (omega arith) (omega arith))
    ∙ take_all record_size (x ∷ xs) h

slot-symbols : (a : List ℕ) → length a ≤ record_size → {ss : List ℕ} → ss ≡ day_symbols (day_of a) → ss ≡ symbols_at a 1
slot-symbols a h e = e ∙ ap (λ (l : List ℕ). day_symbols (day_of l)) (sym (slot-one a h))

-- a day sheet
abbrev pub Dated : Day → Type 0
Dated (sheet k ss) = Unit
Dated (no_sheet n) = ⊥

-- the slot r is read as x
module _ (r : List ℕ) (x : Result Reading Question) (T : day_in x ≡ day_of r) where
  pub read-ok : Dated (day_of r) → IsOk x
  read-ok D = go x T
    where
      go : (u : Result Reading Question) → day_in u ≡ day_of r → IsOk u
      go (Ok y) e = refl
      go (Err q) e = absurd (subst Dated (sym e) D)

  pub read-symbols : (y : Reading) → x ≡ Ok y → y.symbols ≡ day_symbols (day_of r)
  read-symbols y e = ap day_symbols (ap day_in (sym e) ∙ T)

  pub read-sheet : Dated (day_of r) → (y : Reading) → x ≡ Ok y → SheetSymbols y.symbols
  read-sheet D y e = subst SheetSymbols (sym (read-symbols y e)) (go (day_of r) refl D)
    where
      go : (d : Day) → day_of r ≡ d → Dated d → SheetSymbols (day_symbols d)
      go (sheet k ss) f D = (is-sheet r k ss f).symbols
      go (no_sheet n) f D = absurd D

-- slots whose comparison is accepted are day sheets
accepted-days : (a b : List ℕ) → is_accepted (slots_outcome a b) ≡ true → Dated (day_of (slot_of a 1)) × Dated (day_of (slot_of b 1))
unfolding compare_of
accepted-days a b = go (day_of (slot_of a 1)) (day_of (slot_of b 1)) (numbers_asked a 1 b 1)
  where
    none : (x y : Day) → is_accepted (compared_of x y) ≡ false → (v : Verdict) → is_accepted (after v (compared_of x y)) ≡ true → ⊥
    none x y f (Ok tt) e = let z : ◌≡◌ {A = Bool} false true = sym f ∙ e in let c : ◌≡◌ {A = ℕ} 0 1 = cc in omega arith
    none x y f (Err q) e = let c : ◌≡◌ {A = ℕ} 0 1 = cc in omega arith

    go : (x y : Day) (v : Verdict) → is_accepted (after v (compared_of x y)) ≡ true → Dated x × Dated y
    go (sheet k ss) (sheet l ts) v e = (tt, tt)
    go (no_sheet n) y v e = absurd (none (no_sheet n) y refl v e)
    go (sheet k ss) (no_sheet n) v e = absurd (none (sheet k ss) (no_sheet n) refl v e)

-- the symbols of the part are those of the slot that was chosen
chosen-symbols : (w : ℕ) (p a b : List ℕ) → p ≡ part_of (accepted w) a b
    → day_symbols (day_of p) ≡ cond (eqb w 1) (day_symbols (day_of a)) (day_symbols (day_of b))
chosen-symbols w p a b e = ap (λ (l : List ℕ). day_symbols (day_of l)) e ∙ go (eqb w 1)
  where
    go : (t : Bool) → day_symbols (day_of (cond t a b)) ≡ cond t (day_symbols (day_of a)) (day_symbols (day_of b))
    go true = refl
    go false = refl

-- an accepted comparison has the text of its outcome
shown-text : (o : Outcome) (cs ss ts : List ℕ) (x : Comparison) → is_accepted o ≡ true → Shows o ss ts (Ok x)
    → ((w : ℕ) → o ≡ accepted w → cs ≡ cond (eqb w 1) ss ts)
    → beside_text (choice x.choice) x.equal x.controller x.cupboard cs ss ts ≡ outcome_text o ss ts
shown-text (accepted w) cs ss ts x e S h = rw (h w refl, S.answer, S.equal, S.controller, S.cupboard)
shown-text (refused n) cs ss ts x e S h = let c : ◌≡◌ {A = ℕ} 0 1 = cc in absurd (omega arith)

module _ (a b : List ℕ) (x : Comparison) (P : AcceptedSlots a b x) where
  pub controller-dated : Dated (day_of a)
  controller-dated = subst (λ (l : List ℕ). Dated (day_of l)) (slot-one a P.controller-short) (accepted-days a b P.well).0

  pub cupboard-dated : Dated (day_of b)
  cupboard-dated = subst (λ (l : List ℕ). Dated (day_of l)) (slot-one b P.cupboard-short) (accepted-days a b P.well).1

  -- the chosen part
  module _ (p : List ℕ) (ep : p ≡ part_of (choice x.choice) (slot_of a 1) (slot_of b 1)) where
    pub chosen-dated : Dated (day_of p)
    chosen-dated = go (slots_outcome a b) P.compares.answer P.well
      where
        one : (t : Bool) → Dated (day_of (cond t (slot_of a 1) (slot_of b 1)))
        one true = (accepted-days a b P.well).0
        one false = (accepted-days a b P.well).1

        go : (o : Outcome) → choice x.choice ≡ o → is_accepted o ≡ true → Dated (day_of p)
        go (accepted w) e t =
            let part = ep ∙ ap (λ (u : Outcome). part_of u (slot_of a 1) (slot_of b 1)) e in
            subst (λ (l : List ℕ). Dated (day_of l)) (sym part) (one (eqb w 1))
        go (refused n) e t = let c : ◌≡◌ {A = ℕ} 0 1 = cc in absurd (omega arith)

    -- the symbols that were read of the slots, and of the chosen part
    pub read-text : {ss ts cs : List ℕ} → ss ≡ day_symbols (day_of a) → ts ≡ day_symbols (day_of b) → cs ≡ day_symbols (day_of p)
        → beside_text (choice x.choice) x.equal x.controller x.cupboard cs ss ts ≡ comparison_text a b
    read-text {ss} {ts} {cs} es et ec =
        ap₂ (beside_text (choice x.choice) x.equal x.controller x.cupboard cs)
        (slot-symbols a P.controller-short es)
        (slot-symbols b P.cupboard-short et)
        ∙ shown-text (slots_outcome a b) cs (symbols_at a 1) (symbols_at b 1) x P.well P.compares chosen
      where
        chosen : (w : ℕ) → slots_outcome a b ≡ accepted w → cs ≡ cond (eqb w 1) (symbols_at a 1) (symbols_at b 1)
        chosen w e =
            ec
            ∙ chosen-symbols w p (slot_of a 1) (slot_of b 1)
            (ep ∙ ap (λ (o : Outcome). part_of o (slot_of a 1) (slot_of b 1)) (P.compares.answer ∙ e))
