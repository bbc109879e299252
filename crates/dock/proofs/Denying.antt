-- When a call is refused with 19. Assumes nothing.
use Rattle.std.proofs.Common.{Ok}
use Rattle.field.proofs.Base.{ltb-true, ltb-false, le-ltb, ◌≡◌, refl, sym, ap, ◌∙◌, ◌≢◌, Bool, true, false, ◌||◌, false≢true, List, ℕ, arith, ltb}
use Rattle.field.specs.Question.{Outcome, accepted, refused, ask, after}
use Rattle.field.specs.declared.Question.TheVariants.{Bay}
use Rattle.code.specs.Call.{same_bytes}
use Rattle.code.proofs.Same.{same_refl, same-equal}
use Rattle.dock.specs.declared.Rewrites.{Rewrites}
use Rattle.dock.specs.Dock.{bays, own_of, any_left, Call, answer_of, content_of, allowed, granted, call_of}
use Rattle.dock.specs.Demands.{Missing, Denied}
use Rattle.dock.proofs.Serving.{late-at, passed}

or_no : (a b : Bool) → (a || b) ≡ false → (a ≡ false) × (b ≡ false)
or_no true b e = absurd (false≢true (sym e))
or_no false b e = (refl, e)

-- ---- nothing left, and other bytes

module _ (left : Rewrites) (bay : ℕ) where
  none_left : any_left left bay ≡ false → (own_of left bay ≡ 0) × (left.common ≡ 0)
  unfolding any_left
  none_left e =
      let n = or_no (ltb 0 (own_of left bay)) (ltb 0 left.common) e in
      (omega (arith, ltb-false 0 (own_of left bay) n.0), omega (arith, ltb-false 0 left.common n.1))

  left-none : own_of left bay ≡ 0 → left.common ≡ 0 → any_left left bay ≡ false
  unfolding any_left
  left-none a b = simp (le-ltb 0 (own_of left bay) (omega arith), le-ltb 0 left.common (omega arith))

differ : (a b : List ℕ) → same_bytes a b ≡ false → a ≢ b
differ a b e d = false≢true (sym e ∙ ap (same_bytes a) (sym d) ∙ same_refl a)

not_same : (a b : List ℕ) → a ≢ b → same_bytes a b ≡ false
not_same a b d = go (same_bytes a b) refl
  where
    go : (x : Bool) → same_bytes a b ≡ x → same_bytes a b ≡ false
    go true e = absurd (d (same-equal a b e))
    go false e = e

-- ---- the answer 19

bay-denied : (b : Bool) (o : Outcome) → after (ask b Bay (Ok tt)) o ≡ refused 19 → (b ≡ true) × (o ≡ refused 19)
bay-denied true o e = (refl, e)
bay-denied false o e = let z : ◌≡◌ {A = ℕ} 18 19 = cc in absurd (omega arith)

granted-denied : (o : Outcome) (b : Bool) → o ≢ refused 19 → granted o b ≡ refused 19 → ((k : ℕ) × (o ≡ accepted k)) × (b ≡ false)
granted-denied (accepted k) true d e = let z : ◌≡◌ {A = ℕ} 0 1 = cc in absurd (omega arith)
granted-denied (accepted k) false d e = ((k, refl), refl)
granted-denied (refused n) b d e = absurd (d e)

module _ (left : Rewrites) (c : Call) where
  enough : Bool
  enough = allowed left c.bay c.lent (content_of c)

  missing : call_of left c ≡ refused 19 → Missing left c
  unfolding call_of enough
  missing e =
      let b = bay-denied (ltb c.bay bays) (granted (answer_of c) enough) e in
      let g = granted-denied (answer_of c) enough (late-at c.reach c.lent) b.1 in
      let n = or_no (same_bytes c.lent (content_of c)) (any_left left c.bay) g.1 in
      let none = none_left left c.bay n.1 in
      record {
        bay = ltb-true c.bay bays b.0;
        changes = g.0.0;
        restored = g.0.1;
        different = differ c.lent (content_of c) n.0;
        none-own = none.0;
        none-common = none.1;
      }

  refuses : Missing left c → call_of left c ≡ refused 19
  refuses M =
      sym (passed left c M.bay)
      ∙ simp (
        M.restored,
        not_same c.lent (content_of c) M.different,
        left-none left c.bay M.none-own M.none-common,
      )

pub denied : Denied
denied left c = (missing left c, refuses left c)
