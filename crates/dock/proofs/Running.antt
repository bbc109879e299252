-- Runs of calls: what is used and what is left. Assumes nothing.
use Rattle.field.proofs.Base.{eqb-true, eqb-false, ◌≡◌, refl, sym, ap, ◌∙◌, subst, ◌≢◌, Bool, true, false, cond, false≢true, List, [], ◌∷◌, ℕ, zero}
use Rattle.field.proofs.Base.{suc, ◌+◌, ◌-◌, ◌<◌, arith, eqb, length}
use Rattle.code.specs.Call.{same_bytes}
use Rattle.code.proofs.Same.{same_refl, same-equal}
use Rattle.dock.specs.declared.Rewrites.{Rewrites}
use Rattle.dock.specs.Dock.{bays, own_charge, charged, own_of, spent, Call, call_written, call_left}
use Rattle.dock.specs.Run.{left_after, history, used, used_by, all_left}
use Rattle.dock.specs.Demands.{Thousand, NotDenied, OneLess, Costs, CallCosts}
use Rattle.dock.proofs.Spending.{own-left, spent-size, spent-mine, spent-other, spent_all, one_less, not-less}
use Rattle.dock.proofs.Serving.{as-without, Cost, free, paid, cost}

-- ---- one call

module _ (left : Rewrites) (c : Call) where
  -- 1 where the record came back different
  abbrev uses : ℕ
  uses = cond (same_bytes c.lent (call_written left c)) 0 1

  pub size-on : length (call_left left c).own ≡ length left.own
  size-on = go (cost left c)
    where
      go : Cost left c → length (call_left left c).own ≡ length left.own
      go (free s e) = ap (λ (l : Rewrites). length l.own) e
      go (paid s e h some) = ap (λ (l : Rewrites). length l.own) e ∙ spent-size left c.bay

  module _ (four : length left.own ≡ bays) where
    all-on : uses + all_left (call_left left c) ≡ all_left left
    all-on = go (cost left c)
      where
        go : Cost left c → uses + all_left (call_left left c) ≡ all_left left
        go (free s e) = simp s (omega (arith, ap all_left e))
        go (paid s e h some) = simp s (omega (arith, ap all_left e, spent_all left c.bay (omega arith) some))

    own_on : (b : ℕ) → own_of (call_left left c) b ≡ own_of left b - cond (eqb c.bay b) uses 0
    own_on b = go (eqb c.bay b) refl (cost left c)
      where
        go : (x : Bool) → eqb c.bay b ≡ x → Cost left c → own_of (call_left left c) b ≡ own_of left b - cond x uses 0
        go true d (free s e) = simp s (ap (λ (l : Rewrites). own_of l b) e ∙ omega arith)
        go true d (paid s e h some) =
            let mine : c.bay ≡ b = eqb-true c.bay b d in
            simp s
            (ap (λ (l : Rewrites). own_of l b) e
            ∙ ap (own_of (spent left c.bay)) (sym mine)
            ∙ spent-mine left c.bay (omega arith)
            ∙ ap (λ (x : ℕ). own_of left x - 1) mine)
        go false d (free s e) = ap (λ (l : Rewrites). own_of l b) e ∙ omega arith
        go false d (paid s e h some) =
            ap (λ (l : Rewrites). own_of l b) e ∙ spent-other left c.bay b (λ x. eqb-false c.bay b d (sym x)) ∙ omega arith

-- what it costs, and where
pub call-costs : CallCosts
call-costs left c four = go (cost left c)
  where
    Less : Rewrites → Type 0
    Less = λ new. OneLess left new c.bay

    go : Cost left c → Costs left c
    go (free s e) =
        let stays : call_written left c ≡ c.lent = sym (same-equal c.lent (call_written left c) s) in
        record {
          changed = (λ d. absurd (d stays), λ O. absurd (not-less left c.bay (subst Less e O)));
          unchanged = (λ d. e, λ d. stays);
        }
    go (paid s e h some) =
        let O : Less (call_left left c) = subst Less (sym e) (one_less left c.bay (omega arith) some) in
        let moves : call_written left c ≢ c.lent = λ d. false≢true (sym s ∙ ap (same_bytes c.lent) d ∙ same_refl c.lent) in
        record {
          changed = (λ d. O, λ d. moves);
          unchanged = (λ d. absurd (moves d), λ d. absurd (not-less left c.bay (subst Less d O)));
        }

-- ---- any run

pub run-all : (left : Rewrites) (run : List Call) → length left.own ≡ bays
    → used (history left run) + all_left (left_after left run) ≡ all_left left
unfolding used history left_after
run-all left [] four = omega arith
run-all left (c ∷ cs) four =
    let rest = run-all (call_left left c) cs (size-on left c ∙ four) in
    omega (arith, rest, all-on left c four)

pub run-own : (b : ℕ) (left : Rewrites) (run : List Call) → length left.own ≡ bays
    → own_of (left_after left run) b ≡ own_of left b - used_by b (history left run)
unfolding used_by history left_after
run-own b left [] four = omega arith
run-own b left (c ∷ cs) four =
    let rest = run-own b (call_left left c) cs (size-on left c ∙ four) in
    omega (arith, rest, own_on left c four b)

-- ---- since the charge

pub thousand : Thousand
thousand run = run-all charged run refl

own-charged : (b : ℕ) → b < bays → own_of charged b ≡ own_charge
own-charged zero h = refl
own-charged (suc zero) h = refl
own-charged (suc (suc zero)) h = refl
own-charged (suc (suc (suc zero))) h = refl
own-charged (suc (suc (suc (suc b)))) h = absurd (omega arith)

pub not-denied : NotDenied
not-denied run c h few =
    let left = left_after charged run in
    let own : own_of left c.bay ≡ own_of charged c.bay - used_by c.bay (history charged run) = run-own c.bay charged run refl in
    as-without left c h (sym (own-left left c.bay (omega (arith, own, own-charged c.bay h))))
