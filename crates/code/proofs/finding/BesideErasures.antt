-- One wrong place beside erasures: a codeword within one place differs from the word at a check place, or at a data place of which the sums
-- outside the erasures tell the ratio. Assumes nothing.
use Rattle.field.proofs.Base.{◌≡◌, refl, sym, ap, ◌∙◌, subst, ◌≢◌, Bool, true, false, ◌||◌, true≢false, List, [], ◌∷◌, map, ℕ, ◌+◌, ◌≤◌, ◌<◌, dec_lt}
use Rattle.field.proofs.Base.{arith, eq-eqb, eqb}
use Rattle.field.specs.Polynomial.{add}
use Rattle.field.specs.Field.{product}
use Rattle.field.specs.Question.{all_below}
use Rattle.field.proofs.Laws.{IsField}
use Rattle.field.proofs.Below.{below-head, below-tail}
use Rattle.code.specs.Word.{checks, places, Codeword}
use Rattle.code.specs.inner.Place.{column}
use Rattle.code.specs.Erasure.{member, masked_syndrome}
use Rattle.code.specs.inner.Correction.{Lent, NoneAt, NoneWithin}
use Rattle.code.proofs.Questions.{not-member-head, not-member-tail}
use Rattle.code.proofs.Members.{distinct_head, below-cons}
use Rattle.code.proofs.Columns.{combine}
use Rattle.code.proofs.restoring.Extra.{Beside, within-beside, wrong}
use Rattle.code.specs.inner.Beside.{Arranged, same, swapped, DataNamed, NoneCheck, NoneData}
use Rattle.code.proofs.finding.Pattern.{errors, Pattern, pattern-of}
use Rattle.code.proofs.finding.Locating.{wrong-ne}
use Rattle.code.proofs.finding.Ratios.{step-checks, step-data, step-two}

module _ {m : ℕ} (F : IsField m) where
  pattern-arranged : {s e : ℕ → ℕ} {b : ℕ} {es fs : List ℕ} → Arranged es fs → Pattern m s e (b ∷ es) → Pattern m s e (b ∷ fs)
  unfolding combine
  pattern-arranged same P = P
  pattern-arranged {s} {e} {b} (swapped {x} {y}) P = record { small = P.small; rows = go }
    where
      go : (k : ℕ) → k < checks → s k ≡ combine m (b ∷ y ∷ x ∷ []) (map e (b ∷ y ∷ x ∷ [])) k
      go k h = P.rows k h ∙ ap (add (product m (column m b k) (e b))) (F.add_left_comm _ _ 0)

  member-arranged : {es fs : List ℕ} → Arranged es fs → (b : ℕ) → member b es ≡ false → member b fs ≡ false
  member-arranged same b o = o
  member-arranged (swapped {x} {y}) b o = go (eqb b x) (eqb b y) o
    where
      go : (s t : Bool) → (s || (t || false)) ≡ false → (t || (s || false)) ≡ false
      go true t o = absurd (true≢false o)
      go false true o = absurd (true≢false o)
      go false false o = refl

  below-arranged : (n : ℕ) {es fs : List ℕ} → Arranged es fs → all_below n es ≡ true → all_below n fs ≡ true
  below-arranged n same o = o
  below-arranged n (swapped {x} {y}) o =
      below-cons y (x ∷ []) n (below-head y [] n (below-tail x (y ∷ []) n o)) (below-cons x [] n (below-head x (y ∷ []) n o) refl)

  pub data-named : (s e : ℕ → ℕ) (es : List ℕ) (b : ℕ) → checks ≤ b → b < places m → member b es ≡ false → all_below (places m) es ≡ true → e b ≢ 0
      → Pattern m s e (b ∷ es) → DataNamed m es s b
  data-named s e es b hb lb o bs nb P = record {
    beside-checks = λ cs g k inj R.
        (let i : 0 + (g + k) < checks = R.last in
        step-checks F s e b hb lb nb es cs P g k inj (omega arith) R.row (omega arith) R.row-g);
    beside-data = λ a cs A ha cb h g k injh injg R.
        (let i : h + (g + k) < checks = R.last in
        step-data F s e b hb lb nb a ha (below-head a cs (places m) (below-arranged (places m) A bs)) (not-member-head b a cs (member-arranged A b o)) cs cb
        (pattern-arranged A P) h g k injh injg (omega arith) R.row (omega arith) R.row-h (omega arith) R.row-g i R.row-hg);
    beside_two = λ a c E ha hc k l.
        (let bs' = subst (λ (xs : List ℕ). all_below (places m) xs ≡ true) E bs in
        let o' = subst (λ (xs : List ℕ). member b xs ≡ false) E o in
        step-two F s e b hb lb nb a c ha (below-head a (c ∷ []) (places m) bs') hc (below-head c [] (places m) (below-tail a (c ∷ []) (places m) bs'))
        (not-member-head b a (c ∷ []) o') (not-member-head b c [] (not-member-tail b a (c ∷ []) o'))
        (subst (λ (xs : List ℕ). Pattern m s e (b ∷ xs)) E P) k l);
  }

  -- so a search misses nothing that tries the erasures alone, each check place beside them, and the data place that the sums tell
  pub none_beside : {w es : List ℕ} → Lent m w es → (s : ℕ → ℕ) → ((k : ℕ) → k < checks → s k ≡ masked_syndrome m es w k)
      → NoneAt m w es → NoneCheck m w es → NoneData m w es s → NoneWithin m w es 1
  none_beside {w} {es} W s sums n0 nc nd c N = go (wrong es w c (places m)) refl (within-beside W N)
    where
      C : Codeword m c
      C = N.codeword

      go : (extra : List ℕ) → wrong es w c (places m) ≡ extra → Beside m es w 1 c extra → ⊥
      go [] E B = n0 c C B.agrees
      go (b ∷ p ∷ ps) E B = omega (arith, B.few)
      go (b ∷ []) E B = at_place (dec_lt b checks)
        where
          o : member b es ≡ false
          o = distinct_head b es B.lent.distinct

          nb : errors es w c b ≢ 0
          nb = wrong-ne F es w c (places m) b (subst (λ (xs : List ℕ). member b xs ≡ true) (sym E) (rw (eq-eqb b b refl)))

          Q : Pattern m (masked_syndrome m es w) (errors es w c) (b ∷ es)
          Q = pattern-of F W C (b ∷ es) B.lent.distinct B.lent.below (λ p l f. (not-member-tail p b es f, B.agrees p l f))

          P : Pattern m s (errors es w c) (b ∷ es)
          P = record { small = Q.small; rows = λ k l. sums k l ∙ Q.rows k l }

          at_place : Dec (b < checks) → ⊥
          at_place (yes h) = nc b h B.falling.0 o c C B.agrees
          at_place (no n) =
              nd b (omega arith) B.falling.0 o
              (data-named s (errors es w c) es b (omega arith) B.falling.0 o W.below nb P) c C B.agrees
