-- The rewrites left: what is left to a bay, and one less. Assumes nothing.
use Rattle.field.proofs.Base.{lt-ltb, le-ltb, ltb-true, ◌≡◌, refl, sym, ◌∙◌, ◌≢◌, true, List, [], ◌∷◌, ℕ, zero, suc, ◌+◌, ◌-◌, ◌≤◌, ◌<◌, dec_lt}
use Rattle.field.proofs.Base.{arith, ltb, length, get_or, set, length-set, get_or-set_same, get_or-set_other}
use Rattle.dock.specs.declared.Rewrites.{Rewrites}
use Rattle.dock.specs.Dock.{own_of, any_left, spent}
use Rattle.dock.specs.Run.{own_sum, all_left}
use Rattle.dock.specs.Demands.{OneLess}

-- the sum of a list of which one number is replaced
sum-set : (xs : List ℕ) (i v : ℕ) → i < length xs → own_sum (set xs i v) + get_or xs i 0 ≡ own_sum xs + v
sum-set [] i v h = absurd (omega arith)
sum-set (x ∷ xs) zero v h = omega arith
sum-set (x ∷ xs) (suc i) v h = let rest = sum-set xs i v (omega arith) in omega arith

abbrev pub rewrites : List ℕ → ℕ → Rewrites
rewrites own common = record { own = own; common = common }

module _ (left : Rewrites) (bay : ℕ) where
  -- ---- is one left?

  pub own-left : 0 < own_of left bay → true ≡ any_left left bay
  unfolding any_left
  own-left h = simp (lt-ltb 0 (own_of left bay) h)

  pub common-left : own_of left bay ≤ 0 → ltb 0 left.common ≡ any_left left bay
  unfolding any_left
  common-left h = simp (le-ltb 0 (own_of left bay) h)

  pub common-some : any_left left bay ≡ true → own_of left bay ≤ 0 → 0 < left.common
  common-some some h = ltb-true 0 left.common (common-left h ∙ some)

  -- ---- one less

  pub spent-own : 0 < own_of left bay → rewrites (set left.own bay (own_of left bay - 1)) left.common ≡ spent left bay
  unfolding spent
  spent-own h = simp (lt-ltb 0 (own_of left bay) h)

  pub spent-common : own_of left bay ≤ 0 → rewrites left.own (left.common - 1) ≡ spent left bay
  unfolding spent
  spent-common h = simp (le-ltb 0 (own_of left bay) h)

  pub spent-size : length (spent left bay).own ≡ length left.own
  spent-size = go (dec_lt 0 (own_of left bay))
    where
      go : Dec (0 < own_of left bay) → length (spent left bay).own ≡ length left.own
      go (yes h) = rw (sym (spent-own h)) (length-set left.own bay (own_of left bay - 1))
      go (no n) = rw (sym (spent-common (omega arith))) refl

  -- the bay has one less of its own, where it has any; the others have what they had
  pub spent-mine : bay < length left.own → own_of (spent left bay) bay ≡ own_of left bay - 1
  spent-mine l = go (dec_lt 0 (own_of left bay))
    where
      go : Dec (0 < own_of left bay) → own_of (spent left bay) bay ≡ own_of left bay - 1
      go (yes h) = rw (sym (spent-own h)) (get_or-set_same left.own bay (own_of left bay - 1) 0 l)
      go (no n) = rw (sym (spent-common (omega arith))) (omega arith)

  pub spent-other : (b : ℕ) → b ≢ bay → own_of (spent left bay) b ≡ own_of left b
  spent-other b d = go (dec_lt 0 (own_of left bay))
    where
      go : Dec (0 < own_of left bay) → own_of (spent left bay) b ≡ own_of left b
      go (yes h) = rw (sym (spent-own h)) (get_or-set_other left.own bay b (own_of left bay - 1) 0 d)
      go (no n) = rw (sym (spent-common (omega arith))) refl

  -- all have one less
  pub spent_all : bay < length left.own → any_left left bay ≡ true → all_left (spent left bay) + 1 ≡ all_left left
  spent_all l some = go (dec_lt 0 (own_of left bay))
    where
      go : Dec (0 < own_of left bay) → all_left (spent left bay) + 1 ≡ all_left left
      go (yes h) = rw (sym (spent-own h)) (omega (arith, sum-set left.own bay (own_of left bay - 1) l))
      go (no n) = rw (sym (spent-common (omega arith))) (omega (arith, common-some some (omega arith)))

  -- and nothing else changes
  pub one_less : bay < length left.own → any_left left bay ≡ true → OneLess left (spent left bay) bay
  one_less l some = record {
    size = spent-size;
    others = spent-other;
    from-own = λ h. (omega (arith, spent-mine l), rw (sym (spent-own h)) refl);
    from-common = λ z.
        (omega (arith, spent-mine l), rw (sym (spent-common (omega arith))) (omega (arith, common-some some (omega arith))));
  }

  -- one less is not as many
  pub not-less : OneLess left left bay → ⊥
  not-less O = go (dec_lt 0 (own_of left bay))
    where
      go : Dec (0 < own_of left bay) → ⊥
      go (yes h) = omega (arith, (O.from-own h).0)
      go (no n) = omega (arith, (O.from-common (omega arith)).1)
