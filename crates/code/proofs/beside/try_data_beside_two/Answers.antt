-- `code::beside::try_data_beside_two` meets its contract. Assumes nothing.
use Rattle.field.proofs.Base.{◌≡◌, refl, sym, subst, true, List, [], ◌∷◌, ℕ}
use Rattle.field.specs.Question.{all_below}
use Rattle.code.specs.Word.{checks}
use Rattle.code.specs.inner.Correction.{places_of}
use Rattle.code.specs.inner.Beside.{Arranged, same, swapped, Only}
use Rattle.code.proofs.finding.BesideWays.{eliminated-two, only_one, only_two, only-swap, below_one, below_two}
use Rattle.code.proofs.beside.try_data_beside_two.Goals as goal

pub returns-then-q-ge5 : goal.returns-then-q-ge5
returns-then-q-ge5 c =
    let a = c.args in
    λ R L E cube. c.try_data_beside_data_and_check.ensures R (a.p.0 ∷ []) (subst (λ (xs : List ℕ). Arranged xs (a.q.0 ∷ a.p.0 ∷ [])) (sym E) swapped)
    c.if-q-ge5.true (below_one a.p.0 c.if-p-lt5.true) (only_one a.p.0 a.p.0) (λ e. cube)

pub returns-then-p-q : goal.returns-then-p-q
returns-then-p-q c =
    let a = c.args in
    λ R L E cube. c.try_data_beside_checks.ensures R
    (subst (λ (xs : List ℕ). all_below checks xs ≡ true) (sym E) (below_two a.p.0 a.q.0 c.if-p-lt5.true c.if-q-ge5.false))
    (subst (λ (xs : List ℕ). Only xs a.p.0 a.q.0) (sym E) (only_two a.p.0 a.q.0))

pub returns-then-p-lt5 : goal.returns-then-p-lt5
returns-then-p-lt5 c =
    let a = c.args in
    λ R L E cube. c.try_data_beside_checks-then-p-lt5.ensures R
    (subst (λ (xs : List ℕ). all_below checks xs ≡ true) (sym E) (below_two a.p.0 a.q.0 c.if-p-lt5.true c.if-q-ge5.false))
    (subst (λ (xs : List ℕ). Only xs a.q.0 a.p.0) (sym E) (only-swap a.p.0 a.q.0))

pub returns-then-q-lt5 : goal.returns-then-q-lt5
returns-then-q-lt5 c =
    let a = c.args in
    λ R L E cube. c.try_data_beside_data_and_check-then-q-lt5.ensures R (a.q.0 ∷ []) (subst (λ (xs : List ℕ). Arranged xs (a.p.0 ∷ a.q.0 ∷ [])) (sym E) same)
    c.if-p-lt5.false (below_one a.q.0 c.if-q-lt5.true) (only_one a.q.0 a.q.0) (λ e. cube)

pub returns : goal.returns
returns c =
    let a = c.args in
    let ha = c.if-p-lt5.false in
    let hc = c.if-q-lt5.false in
    λ R L E cube. eliminated-two a.width R.width a.word.now (places_of a.t) a.t.sums _ a.p.0 a.q.0 E ha hc _ _ refl
    (L.two a.p.0 a.q.0 E ha hc) (c.try_root.ensures R)
