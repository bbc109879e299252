-- The order of dates. Assumes nothing.
use Rattle.field.proofs.Base.{◌≡◌, refl, ap, ap₂, ◌∙◌, ◌⊎◌, inl, inr, Bool, true, false, cond, ℕ, ◌+◌, ◌≤◌, ◌<◌, le_refl, arith, eq-eqb, ne_eqb}
use Rattle.field.proofs.Base.{eqb-true, eqb-false, lt-ltb, le-ltb, ltb-true, ltb-false, eqb, ltb}
use Rattle.std.proofs.lemmas.Bool.Decides.{nat_tests}
use Rattle.std.specs.Ordering.{partial_lt}
use Rattle.report.specs.contracts.row.DatePartialOrd.TheImpl.{partial_cmp-value}
use Rattle.report.specs.Window.{below, earlier}
use Rattle.report.specs.declared.row.Date.{Date}
use Rattle.report.specs.Demands.{EarlierMeans, DaysInOrder}
use Rattle.sheet.specs.Calendar.{epoch, days_in}

-- ---- one number, and then the rest

module _ (x y : ℕ) (b : Bool) where
  pub below-same : x ≡ y → below x y b ≡ b
  below-same e = ap (λ (c : Bool). cond c b (ltb x y)) (eq-eqb x y e)

  pub below_other : (x ≡ y → ⊥) → below x y b ≡ ltb x y
  below_other n = ap (λ (c : Bool). cond c b (ltb x y)) (ne_eqb x y n)

  pub below_less : x < y → below x y b ≡ true
  below_less h = below_other (λ e. omega arith) ∙ lt-ltb x y h

  pub below-means : below x y b ≡ true → (x < y) ⊎ ((x ≡ y) × (b ≡ true))
  below-means h = go (eqb x y) refl h
    where
      go : (c : Bool) → eqb x y ≡ c → cond c b (ltb x y) ≡ true → (x < y) ⊎ ((x ≡ y) × (b ≡ true))
      go true e t = inr (eqb-true x y e, t)
      go false e t = inl (ltb-true x y t)

  pub below-not : below x y b ≡ false → (y < x) ⊎ ((x ≡ y) × (b ≡ false))
  below-not h = go (eqb x y) refl h
    where
      go : (c : Bool) → eqb x y ≡ c → cond c b (ltb x y) ≡ false → (y < x) ⊎ ((x ≡ y) × (b ≡ false))
      go true e t = inr (eqb-true x y e, t)
      go false e t = let n = eqb-false x y e in inl (strict n (ltb-false x y t))
        where
          strict : (x ≡ y → ⊥) → y ≤ x → y < x
          strict n l = omega (arith, n)

pub date-less : (a b : Date) → partial_lt (partial_cmp-value).it a b ≡ earlier a b
unfolding earlier
date-less a b = grind (arith, nat_tests)

below-trans : (x y z : ℕ) (a b c : Bool) → (a ≡ true → b ≡ true → c ≡ true) → below x y a ≡ true → below y z b ≡ true → below x z c ≡ true
below-trans x y z a b c rest p q = go (below-means x y a p) (below-means y z b q)
  where
    go : (x < y) ⊎ ((x ≡ y) × (a ≡ true)) → (y < z) ⊎ ((y ≡ z) × (b ≡ true)) → below x z c ≡ true
    go (inl h) (inl k) = below_less x z c (omega arith)
    go (inl h) (inr k) = below_less x z c (omega (arith, k.0))
    go (inr h) (inl k) = below_less x z c (omega (arith, h.0))
    go (inr h) (inr k) = below-same x z c (h.0 ∙ k.0) ∙ rest h.1 k.1

-- neither is below the other
below-neither : (x y : ℕ) (a b : Bool) → below x y a ≡ false → below y x b ≡ false → (x ≡ y) × ((a ≡ false) × (b ≡ false))
below-neither x y a b p q = go (below-not x y a p) (below-not y x b q)
  where
    go : (y < x) ⊎ ((x ≡ y) × (a ≡ false)) → (x < y) ⊎ ((y ≡ x) × (b ≡ false)) → (x ≡ y) × ((a ≡ false) × (b ≡ false))
    go (inl h) (inl k) = absurd (omega arith)
    go (inl h) (inr k) = absurd (omega (arith, k.0))
    go (inr h) (inl k) = absurd (omega (arith, h.0))
    go (inr h) (inr k) = (h.0, (h.1, k.1))

-- ---- dates

pub earlier-irreflexive : (a : Date) → earlier a a ≡ false
unfolding earlier
earlier-irreflexive a =
    below-same a.year a.year _ refl ∙ below-same a.month a.month _ refl ∙ le-ltb a.day a.day (le_refl a.day)

pub earlier-transitive : (a b c : Date) → earlier a b ≡ true → earlier b c ≡ true → earlier a c ≡ true
unfolding earlier
earlier-transitive a b c =
    below-trans a.year b.year c.year _ _ _
    (below-trans a.month b.month c.month _ _ _
    (λ p q. lt-ltb a.day c.day (omega (arith, ltb-true a.day b.day p, ltb-true b.day c.day q))))

pub earlier-total : (a b : Date) → earlier a b ≡ false → earlier b a ≡ false → a ≡ b
unfolding earlier
earlier-total a b p q =
    let year = below-neither a.year b.year _ _ p q in
    let month = below-neither a.month b.month _ _ year.1.0 year.1.1 in
    let days : a.day ≡ b.day = omega (arith, ltb-false a.day b.day month.1.0, ltb-false b.day a.day month.1.1) in
    same year.0 month.0 days
  where
    same : a.year ≡ b.year → a.month ≡ b.month → a.day ≡ b.day → a ≡ b
    same y m d =
        ap₂ (λ (u v : ℕ). record { year = u; month = v; day = a.day }) y m ∙ ap (λ (u : ℕ). record { year = b.year; month = b.month; day = u }) d

-- by its numbers
pub earlier-means : EarlierMeans
unfolding earlier
earlier-means a b = (to, from)
  where
    to : below a.year b.year (below a.month b.month (ltb a.day b.day)) ≡ true
        → (a.year < b.year) ⊎ ((a.year ≡ b.year) × ((a.month < b.month) ⊎ ((a.month ≡ b.month) × (a.day < b.day))))
    to e = years (below-means a.year b.year (below a.month b.month (ltb a.day b.day)) e)
      where
        months : (a.month < b.month) ⊎ ((a.month ≡ b.month) × (ltb a.day b.day ≡ true))
            → (a.month < b.month) ⊎ ((a.month ≡ b.month) × (a.day < b.day))
        months (inl h) = inl h
        months (inr h) = inr (h.0, ltb-true a.day b.day h.1)

        years : (a.year < b.year) ⊎ ((a.year ≡ b.year) × (below a.month b.month (ltb a.day b.day) ≡ true))
            → (a.year < b.year) ⊎ ((a.year ≡ b.year) × ((a.month < b.month) ⊎ ((a.month ≡ b.month) × (a.day < b.day))))
        years (inl h) = inl h
        years (inr h) = inr (h.0, months (below-means a.month b.month (ltb a.day b.day) h.1))

    from : (a.year < b.year) ⊎ ((a.year ≡ b.year) × ((a.month < b.month) ⊎ ((a.month ≡ b.month) × (a.day < b.day))))
        → below a.year b.year (below a.month b.month (ltb a.day b.day)) ≡ true
    from (inl h) = below_less a.year b.year _ h
    from (inr (y, inl h)) = below-same a.year b.year _ y ∙ below_less a.month b.month _ h
    from (inr (y, inr (m, h))) = below-same a.year b.year _ y ∙ below-same a.month b.month _ m ∙ lt-ltb a.day b.day h

-- the day after a date is later
pub days-in-order : DaysInOrder
days-in-order d = go (ltb d.day (days_in (epoch + d.year) d.month)) (ltb d.month 12)
  where
    date : ℕ → ℕ → ℕ → Date
    date = λ y m n. record { year = y; month = m; day = n }

    go : (s t : Bool)
        → earlier d (cond s (date d.year d.month (d.day + 1)) (cond t (date d.year (d.month + 1) 1) (date (d.year + 1) 1 1))) ≡ true
    go true t = (earlier-means d (date d.year d.month (d.day + 1))).1 (inr (refl, inr (refl, omega arith)))
    go false true = (earlier-means d (date d.year (d.month + 1) 1)).1 (inr (refl, inl (omega arith)))
    go false false = (earlier-means d (date (d.year + 1) 1 1)).1 (inl (omega arith))
