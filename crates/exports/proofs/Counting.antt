-- The counts of the dock as lent numbers. Assumes nothing.
use Rattle.std.proofs.Common.{Ok, Err}
use Rattle.field.proofs.Base.{eq-eqb, ne_eqb, eqb-true, lt-ltb, le-ltb, ◌≡◌, refl, sym, ap, ◌∙◌, List, [], ◌∷◌, ℕ, ◌≤◌, ◌<◌, arith, eqb, ltb}
use Rattle.field.proofs.Base.{length}
use Rattle.field.specs.Question.{Verdict}
use Rattle.field.specs.declared.Question.TheVariants.{Length, Bay}
use Rattle.field.proofs.Ask.{ask-yes, ask-next}
use Rattle.code.specs.Call.{written}
use Rattle.dock.specs.Dock.{bays, charged}
use Rattle.exports.specs.Counts.{counts_size, rewrites_of, lent_counts, counts_asked, charge_written}
use Rattle.exports.specs.Counts.{bay_asked}

-- counts that are read and written back are the same
pub lent-again : (xs : List ℕ) → length xs ≡ counts_size → lent_counts (rewrites_of xs) ≡ xs
lent-again [] h = absurd (omega arith)
lent-again (a ∷ []) h = absurd (omega arith)
lent-again (a ∷ b ∷ []) h = absurd (omega arith)
lent-again (a ∷ b ∷ c ∷ []) h = absurd (omega arith)
lent-again (a ∷ b ∷ c ∷ d ∷ []) h = absurd (omega arith)
lent-again (a ∷ b ∷ c ∷ d ∷ e ∷ []) h = refl
lent-again (a ∷ b ∷ c ∷ d ∷ e ∷ f ∷ xs) h = absurd (omega arith)

-- ---- a new charge

pub charge-written : (xs : List ℕ) → length xs ≡ counts_size → lent_counts charged ≡ charge_written xs
charge-written xs h = ap (λ (v : Verdict). written v xs (lent_counts charged)) asked
  where
    asked : Ok tt ≡ counts_asked (length xs)
    asked = simp (eq-eqb (length xs) counts_size h)

-- ---- a bay's call

module _ (bay n : ℕ) where
  pub asked-bay : 3 < bay → Err Bay ≡ bay_asked bay n
  unfolding bay_asked
  asked-bay h = simp (le-ltb bay bays (omega arith))

  module _ (h : bay ≤ 3) where
    pub asked-counts : (n ≡ counts_size → ⊥) → Err Length ≡ bay_asked bay n
    unfolding bay_asked
    asked-counts e = simp (lt-ltb bay bays (omega arith), ne_eqb n counts_size e)

    pub asked-passed : n ≡ counts_size → (Ok tt) ≡ bay_asked bay n
    unfolding bay_asked
    asked-passed e = simp (lt-ltb bay bays (omega arith), eq-eqb n counts_size e)

pub five-counts : (bay : ℕ) (xs : List ℕ) (v : Verdict) → v ≡ bay_asked bay (length xs) → v ≡ (Ok tt) → length xs ≡ counts_size
unfolding bay_asked
five-counts bay xs v e p =
    eqb-true (length xs) counts_size
    (ask-yes (eqb (length xs) counts_size) Length (Ok tt) (ask-next (ltb bay bays) Bay _ (sym e ∙ p)))
