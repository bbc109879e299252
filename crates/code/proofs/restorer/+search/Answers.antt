-- `code::restorer::search` meets its contract: where the trial itself fails, nothing is there with any of the further places passed. Assumes
-- nothing.
use Rattle.field.proofs.Base.{◌≡◌, refl, sym, ◌∙◌, false, ◌∷◌, List, ℕ, suc, ◌+◌, ◌-◌, ◌<◌, ◌≤◌, zero-le, arith, length}
use Rattle.code.specs.declared.erasures.Trial.{Trial}
use Rattle.code.specs.declared.erasures.Correction.{Correction}
use Rattle.code.specs.declared.solver.Solutions.{Solutions}
use Rattle.code.specs.Word.{places, at}
use Rattle.code.specs.Erasure.{member}
use Rattle.code.specs.inner.Correction.{Ready, places_of, NoneFrom, Searched}
use Rattle.code.proofs.Loops.{sought-start, sought-on}
use Rattle.code.proofs.Questions.{both_ways}
use Rattle.code.proofs.restoring.Trying.{searched-nothing, searched-none, searched-found, searched-last, searched-place, none_from, none-exact}
use Rattle.code.proofs.restorer.+search.Goals.{then-exist-via-then-exist, then-exist-via-else-exist+then-left-eq0, then-not-contains+else-exist-2, else-not-contains}
use Rattle.code.proofs.restorer.+search.Goals as goal

-- what the search with the place p more has found, for the trial as it was
deeper : (m : ℕ) (w : List ℕ) (t u : Trial) (n p : ℕ) (d : Solutions Correction) → Ready m w t → p < length w → member p (places_of t) ≡ false
    → ((w' : List ℕ) → Ready m w' t → p < places m → member p (places_of t) ≡ false → at w p ≡ at w' p → (places_of u ≡ p ∷ places_of t) × Ready m w' u)
    → (Ready m w u → Searched m w (places_of u) n (NoneFrom m w (places_of u) (p + 1) n) d)
    → Searched m w (places_of t) (suc n) (member p (places_of t) ≡ false → NoneFrom m w (p ∷ places_of t) (p + 1) n) d
deeper m w t u n p d R h fresh E S =
    searched-place m w t u n (λ ls. NoneFrom m w ls (p + 1) n) d p (E w R (omega (arith, R.lent.size, h)) fresh refl) S

pub returns-then-exist : goal.returns-then-exist
returns-then-exist n c =
    let x = c.solve-c in
    let a = c.args in
    λ R. elim c.then-exist.branch [
      | then-exist-via-then-exist w ↦ searched-found zero-le c.exist.result c.exist.ensures w.if-exist.true (x.ensures _ R)
      | then-exist-via-else-exist+then-left-eq0 w ↦
          searched-last zero-le (none-exact a.width a.word.now (places_of a.t) a.from.0 a.left w.if-left-eq0.true) (x.ensures _ R)
    ]

pub loop-p-init : goal.loop-p-init
loop-p-init n c = λ R. sought-start _ _

pub search-d-requires : goal.search-d-requires
search-d-requires n c = (omega arith, (omega (arith, c.extended-u.ensures.0), omega arith))

pub returns-then-exist-2 : goal.returns-then-exist-2
returns-then-exist-2 n c =
    let a = c.args in
    let s = c.search-d in
    let y = c.exist-then-not-contains in
    let fresh = sym c.contains.ensures ∙ c.if-not-contains.true in
    let more : suc (a.left - 1) ≤ a.left = omega (arith, c.if-left-eq0.false) in
    λ R. searched-found more y.result y.ensures c.if-exist-2.true
    (deeper a.width a.word.now a.t c.extended-u.result (a.left - 1) c.loop-p.p s.result R c.loop-p-test.true fresh c.extended-u.ensures.1 s.ensures)

pub loop-p-preserved : goal.loop-p-preserved
loop-p-preserved n c = λ R.
    (let a = c.args in
    let l = c.loop-p in
    sought-on (λ (i : ℕ). member i (places_of a.t) ≡ false → NoneFrom a.width a.word.now (i ∷ places_of a.t) (i + 1) (a.left - 1)) a.from.0 l.p (l.invariant R)
    (elim c.if-not-contains.branch [
      | then-not-contains+else-exist-2 w ↦
          (deeper a.width a.word.now a.t w.extended-u.result (a.left - 1) l.p w.search-d.result R c.loop-p-test.true
          (sym c.contains.ensures ∙ w.if-not-contains.true) w.extended-u.ensures.1 w.search-d.ensures).none
          (searched-nothing w.search-d.result w.exist-then-not-contains.result w.exist-then-not-contains.ensures w.if-exist-2.false)
      | else-not-contains w ↦ λ o. absurd (both_ways w.if-not-contains.false (c.contains.ensures ∙ o))
    ]))

pub returns : goal.returns
returns n c =
    let x = c.solve-c in
    let y = c.exist in
    let a = c.args in
    let l = c.loop-p in
    let none = searched-nothing x.result y.result y.ensures c.if-exist.false in
    λ R. searched-none
    (none_from a.width a.word.now (places_of a.t) a.from.0 a.left (omega (arith, c.if-left-eq0.false))
    ((x.ensures _ R).none none)
    (λ p h b. l.invariant R p h (omega (arith, R.lent.size, c.loop-p-test.false))))
