-- `code::restorer::correct_word` meets its contract. Assumes nothing.
use Rattle.field.proofs.Base.{◌≡◌, refl, sym, ◌∙◌, subst, true, List, ℕ, arith}
use Rattle.field.specs.Question.{is_width, all_below}
use Rattle.code.specs.declared.erasures.Trial.{Trial}
use Rattle.code.specs.declared.erasures.Correction.{Correction}
use Rattle.code.specs.declared.solver.Solutions.{Solutions}
use Rattle.code.specs.Demands.{PassesWithin}
use Rattle.code.specs.inner.Correction.{corrected_places, places_of, Lent, Ready, NoneWithin, Searched}
use Rattle.code.proofs.calls.Passing.{given, within-passes}
use Rattle.code.proofs.restoring.Repairing.{workable, restores-clean, restores-found, restores-none, restores-several}
use Rattle.code.proofs.restorer.correct_word.Goals as goal

-- the trial of the erasures is one of the word
ready : (m : ℕ) (w es : List ℕ) (reach : ℕ) (t : Trial) → PassesWithin m w es reach → (is_width m ≡ true → Lent m w es → Ready m w t) → Ready m w t
ready m w es reach t P r = let g = given m w es (within-passes m w es reach P).0 in r g.width g.lent

-- what the search has found
found : (m : ℕ) (w es : List ℕ) (reach : ℕ) (t : Trial) (x : Solutions Correction) → PassesWithin m w es reach → places_of t ≡ es
    → (is_width m ≡ true → Lent m w es → Ready m w t)
    → (Ready m w t → Searched m w (places_of t) reach (NoneWithin m w (places_of t) reach) x)
    → Searched m w es reach (NoneWithin m w es reach) x
found m w es reach t x P e r S =
    subst (λ (ls : List ℕ). Searched m w ls reach (NoneWithin m w ls reach) x) e (S (ready m w es reach t P r))

pub of_erasures-t-requires : goal.of_erasures-t-requires
of_erasures-t-requires c =
    let a = c.args in
    workable a.width a.word.now a.erasures.now (within-passes a.width a.word.now a.erasures.now a.reach c.requires).0

pub returns-then-is_clean : goal.returns-then-is_clean
returns-then-is_clean c =
    let a = c.args in
    let t = c.of_erasures-t.result in
    let e = c.of_erasures-t.ensures in
    let z = c.is_clean.ensures c.if-is_clean.true in
    restores-clean a.width a.word.now a.erasures.now a.reach c.requires t e.1 (ready a.width a.word.now a.erasures.now a.reach t c.requires e.2) (sym e.0 ∙ z.0) z.1 _ refl

pub find_correction-requires : goal.find_correction-requires
find_correction-requires c =
    let a = c.args in
    let p = within-passes a.width a.word.now a.erasures.now a.reach c.requires in
    let w = workable a.width a.word.now a.erasures.now p.0 in
    let e = c.of_erasures-t.ensures.0 in
    (omega (arith, w.few, e), omega (arith, e, p.1), w.long, w.short)

pub apply-requires : goal.apply-requires
apply-requires c =
    let a = c.args in
    let E = c.of_erasures-t.ensures in
    let p = within-passes a.width a.word.now a.erasures.now a.reach c.requires in
    let R = ready a.width a.word.now a.erasures.now a.reach c.of_erasures-t.result c.requires E.2 in
    let S = found a.width a.word.now a.erasures.now a.reach c.of_erasures-t.result _ c.requires E.1 E.2 c.in-One.ensures in
    let C = S.one _ refl in (
      C.room,
      (workable a.width a.word.now a.erasures.now p.0).short,
      subst (λ (n : ℕ). all_below n (corrected_places c.in-One.c) ≡ true) (sym R.lent.size) C.below,
      C.distinct,
    )

pub returns-in-None : goal.returns-in-None
returns-in-None c =
    let a = c.args in
    let E = c.of_erasures-t.ensures in
    let S = found a.width a.word.now a.erasures.now a.reach c.of_erasures-t.result _ c.requires E.1 E.2 c.in-None.ensures in
    restores-none a.width a.word.now a.erasures.now a.reach c.requires (S.none refl) _ refl

pub returns-in-One : goal.returns-in-One
returns-in-One c =
    let a = c.args in
    let w = c.apply in
    let E = c.of_erasures-t.ensures in
    let S = found a.width a.word.now a.erasures.now a.reach c.of_erasures-t.result _ c.requires E.1 E.2 c.in-One.ensures in
    restores-found a.width a.word.now a.erasures.now a.reach c.requires c.in-One.c w.result _ (S.one _ refl) w.ensures.0 w.ensures.1

pub returns-in-Several : goal.returns-in-Several
returns-in-Several c =
    let a = c.args in
    let E = c.of_erasures-t.ensures in
    let S = found a.width a.word.now a.erasures.now a.reach c.of_erasures-t.result _ c.requires E.1 E.2 c.in-Several.ensures in
    restores-several a.width a.word.now a.erasures.now a.reach c.requires (S.several refl) _ refl
