-- The demands on the restorer: there are never two near codewords, what it accepts and refuses, that a refused word stays, and that neither
-- the symbols at the erasures nor the order of the erasures matter. Assumes nothing.
use Rattle.std.proofs.Common.{Ok, Err}
use Rattle.field.specs.Question.{Verdict}
use Rattle.field.proofs.Base.{◌≡◌, refl, sym, ap, ap₂, ◌∙◌, subst, ◌≢◌, ◌⊎◌, inl, inr, Bool, true, false, cond, List, [], ◌∷◌, ℕ, ◌+◌, ◌%◌, ◌≤◌, ◌<◌}
use Rattle.field.proofs.Base.{le_refl, dec_lt, arith, le-leb, eqb, leb, length}
use mathlib.Core.Logic.{◌↔◌}
use native.Mathlib.Nat.{le_trans}
use lib.ListN.{get_or-eq_default}
use Rattle.field.specs.Field.{order}
use Rattle.field.specs.Question.{Outcome, accepted, refused, refusal, ask, after, is_width, all_below}
use Rattle.field.specs.declared.Question.{Question}
use Rattle.field.specs.declared.Question.TheVariants.{Width, Length, ErasureCount, ErasurePlace, ErasureDistinct, Symbol, Reach}
use Rattle.field.proofs.Laws.{IsField}
use Rattle.field.proofs.Widths.{field_of}
use Rattle.field.proofs.Below.{all_below-means, all_below-holds}
use Rattle.field.proofs.Evaluation.{five-cong}
use Rattle.code.specs.Word.{places, at}
use Rattle.code.specs.Erasure.{member, distinct, symbols_from, differ, changes, masked, syndromes_without}
use Rattle.code.specs.Near.{distance, radius, codewords, Near, nearby, Restoration, none, one, several, found, restoration}
use Rattle.code.specs.Call.{max_erasures, written, done, word_asked, shown, decided, restored, restore_asked, followed, within_asked, within_of, within_written}
use Rattle.code.specs.Demands.{Passes, PassesWithin, NeverTwo, Nearest, Accepts, RefusesSeven, TwoNear, RefusesFourteen, FewErasures, RefusedUnchanged}
use Rattle.code.specs.Demands.{earlier_asked, earlier_decided, earlier_restored, AsEarlier, LongerReach, ShorterReach}
use Rattle.code.specs.Demands.{SameErasures, AgreeOutside, SameRestored, SameGiven}
use Rattle.code.proofs.Sums.{total-cong, syndrome-cong}
use Rattle.code.proofs.Questions.{bool_eq, member-means, member-at, symbols-means, symbols-holds}
use Rattle.code.proofs.Members.{distinct-once, once-distinct, same-member, same_length}
use Rattle.code.proofs.distance.DistanceLaw.{distance-of}
use Rattle.code.proofs.distance.Unique.{same-near, radius-few}
use Rattle.code.proofs.calls.Passing.{Given, given, asks_reach, within-passes, passes-radius}
use Rattle.code.proofs.restoring.Codewords.{keep-cong, restoration-none, restoration-far, restoration-near, restoration-only, restoration-one}
use Rattle.code.proofs.restoring.Codewords.{restoration-several, restoration-two}

-- ---- what an outcome says of the questions and of the restoration

module _ (m : ℕ) (w es : List ℕ) where
  accepted-means : (v : Verdict) (r : Restoration) (k : ℕ) → after v (decided m w es r) ≡ accepted k
      → (v ≡ (Ok tt)) × (c : List ℕ) × (r ≡ one c) × (k ≡ changes m es w c)
  accepted-means (Ok tt) none k e = let z : ◌≡◌ {A = ℕ} 0 1 = cc in absurd (omega arith)
  accepted-means (Ok tt) (one c) k e = (refl, c, refl, cc)
  accepted-means (Ok tt) several k e = let z : ◌≡◌ {A = ℕ} 0 1 = cc in absurd (omega arith)
  accepted-means (Err q) r k e = let z : ◌≡◌ {A = ℕ} 0 1 = cc in absurd (omega arith)

  refused-means : (v : Verdict) (r : Restoration) (n : ℕ) → after v (decided m w es r) ≡ refused n → written v w (restored w r) ≡ w
  refused-means (Ok tt) none n e = refl
  refused-means (Ok tt) (one c) n e = let z : ◌≡◌ {A = ℕ} 0 1 = cc in absurd (omega arith)
  refused-means (Ok tt) several n e = refl
  refused-means (Err q) r n e = refl

  written_one : (reach : ℕ) (c : List ℕ) → PassesWithin m w es reach → restoration m es w reach ≡ one c → within_written m w es reach ≡ c
  written_one reach c p f = simp (p, f)

-- what is refused stays as it was
pub refused-unchanged : RefusedUnchanged
refused-unchanged m w es reach n e = refused-means m w es (within_asked m w es reach) (restoration m es w reach) n e

-- a number that no question before question 8 has
record Late (n : ℕ) : Type 0 where
  width : refusal Width ≢ n
  length : refusal Length ≢ n
  count : refusal ErasureCount ≢ n
  place : refusal ErasurePlace ≢ n
  distinct : refusal ErasureDistinct ≢ n
  symbol : refusal Symbol ≢ n
  reach : refusal Reach ≢ n

late-step : (n : ℕ) (b : Bool) (q : Question) (v : Verdict) (o : Outcome) → refusal q ≢ n → (after v o ≡ refused n → v ≡ (Ok tt))
    → after (ask b q v) o ≡ refused n → ask b q v ≡ (Ok tt)
late-step n true q v o d h e = h e
late-step n false q v o d h e = absurd (d (cc))

-- a call that answers with it has passed those questions
late-passed : (n : ℕ) → Late n → (m : ℕ) (w es : List ℕ) (o : Outcome) → after (restore_asked m w es) o ≡ refused n → Passes m w es
unfolding restore_asked
late-passed n L m w es o =
    late-step n (is_width m) Width _ o L.width
    (late-step n (eqb (length w) (places m)) Length _ o L.length
    (late-step n (leb (length es) (max_erasures m)) ErasureCount _ o L.count
    (late-step n (all_below (places m) es) ErasurePlace _ o L.place
    (late-step n (distinct es) ErasureDistinct _ o L.distinct
    (late-step n (symbols_from (order m) es 0 w) Symbol (Ok tt) o L.symbol (λ e. refl))))))

late-within : (n : ℕ) → Late n → (m : ℕ) (w es : List ℕ) (reach : ℕ) (o : Outcome) → after (within_asked m w es reach) o ≡ refused n
    → PassesWithin m w es reach
unfolding within_asked
late-within n L m w es reach o e = go (restore_asked m w es) refl e
  where
    go : (v : Verdict) → restore_asked m w es ≡ v → after (followed v (asks_reach m w es reach)) o ≡ refused n
        → followed v (asks_reach m w es reach) ≡ (Ok tt)
    go (Ok tt) f e = late-step n (leb reach (radius m (length es))) Reach (Ok tt) o L.reach (λ e. refl) e
    go (Err q) f e =
        let p = late-passed n L m w es o (ap (λ (v : Verdict). after v o) f ∙ e) in
        let z : ◌≡◌ {A = ℕ} 0 1 = cc in absurd (omega arith)

late : (n : ℕ) → 6 < n → n < 16 → Late n
late n h l = record {
  width = λ e. omega arith;
  length = λ e. omega arith;
  count = λ e. omega arith;
  place = λ e. omega arith;
  distinct = λ e. omega arith;
  symbol = λ e. omega arith;
  reach = λ e. omega arith;
}

-- ---- what restoring finds, of an input that passes

-- what passes, with fewer erasures than the distance, has s + 2 reach below the distance
reach_few : (m : ℕ) (w es : List ℕ) (reach : ℕ) → PassesWithin m w es reach → length es < distance m → length es + reach + reach < distance m
reach_few m w es reach p h = omega (arith, (within-passes m w es reach p).1, radius-few m (length es) h)

module _ (m : ℕ) (w es : List ℕ) (reach : ℕ) (p : PassesWithin m w es reach) where
  pub G : Given m w es
  G = given m w es (within-passes m w es reach p).0

  F : IsField m
  F = field_of m G.width

  -- two codewords near enough to w are one
  alike : (c d : List ℕ) (a b : ℕ) → Near m es w a c → Near m es w b d → length es + a + b < distance m → c ≡ d
  alike c d a b N N' few =
      same-near F (distance m) (distance-of m G.width) N.codeword N'.codeword es w a b few N.few N'.few

  finds-nearest : (c : List ℕ) (k : ℕ) → restoration m es w reach ≡ one c → k ≡ changes m es w c → Nearest m w es reach c k
  finds-nearest c k f e = record { near = restoration-near F es w reach c f; only = restoration-only F es w reach c f; count = e }

  pub finds-one : (c : List ℕ) → Near m es w reach c → ((d : List ℕ) → Near m es w reach d → d ≡ c) → restoration m es w reach ≡ one c
  finds-one = restoration-one F es w reach

  pub finds-none : restoration m es w reach ≡ none ↔ ((c : List ℕ) → Near m es w reach c → ⊥)
  finds-none = (restoration-far F es w reach, restoration-none F es w reach)

  pub finds-several : restoration m es w reach ≡ several ↔ TwoNear m es w reach
  finds-several = (
    λ e.
        let t = restoration-two F es w reach e in
        record { first = t.0; second = t.1; first-near = t.2; second-near = t.3; different = t.4 },
    λ T. restoration-several F es w reach T.first T.second T.first-near T.second-near T.different,
  )

-- with fewer erasures than the distance there is never more than one near codeword
pub never-two : NeverTwo
never-two m w es reach p h c d N N' = alike m w es reach p c d reach reach N N' (reach_few m w es reach p h)

-- accepted exactly when one codeword alone is near, and then the word ends equal to it
pub accepts : Accepts
accepts m w es reach k c = (
  λ h.
      let r = accepted-means m w es (within_asked m w es reach) (restoration m es w reach) k h.0 in
      let d : r.1 ≡ c = sym (written_one m w es reach r.1 r.0 r.2) ∙ h.1 in
      (r.0, finds-nearest m w es reach r.0 c k (r.2 ∙ ap one d) (r.3 ∙ ap (changes m es w) d)),
  λ h.
      let f = finds-one m w es reach h.0 c h.1.near h.1.only in
      (simp (h.0, f, h.1.count), written_one m w es reach c h.0 f),
)

-- the number that question 8 or the one behind it gives tells what was found
module _ (m : ℕ) (w es : List ℕ) where
  tells_none : (x : Restoration) → decided m w es x ≡ refused 7 → x ≡ none
  tells_none none e = refl
  tells_none (one c) e = let z : ◌≡◌ {A = ℕ} 0 1 = cc in absurd (omega arith)
  tells_none several e = let z : ◌≡◌ {A = ℕ} 14 7 = cc in absurd (omega arith)

  tells-several : (x : Restoration) → decided m w es x ≡ refused 14 → x ≡ several
  tells-several none e = let z : ◌≡◌ {A = ℕ} 7 14 = cc in absurd (omega arith)
  tells-several (one c) e = let z : ◌≡◌ {A = ℕ} 0 1 = cc in absurd (omega arith)
  tells-several several e = refl

-- refused with 7 exactly when none is near
pub refuses-seven : RefusesSeven
refuses-seven m w es reach = (
  λ e.
      let x = restoration m es w reach in
      let p = late-within 7 (late 7 (omega arith) (omega arith)) m w es reach (decided m w es x) e in
      (p, (finds-none m w es reach p).0 (tells_none m w es x (simp p at e))),
  λ h. let f = (finds-none m w es reach h.0).1 h.1 in simp (h.0, f),
)

-- refused with 14 exactly when several are near
pub refuses-fourteen : RefusesFourteen
refuses-fourteen m w es reach = (
  λ e.
      let x = restoration m es w reach in
      let p = late-within 14 (late 14 (omega arith) (omega arith)) m w es reach (decided m w es x) e in
      (p, (finds-several m w es reach p).0 (tells-several m w es x (simp p at e))),
  λ h. let f = (finds-several m w es reach h.0).1 h.1 in simp (h.0, f),
)

-- which does not happen with fewer erasures than the distance
pub few-erasures : FewErasures
few-erasures m w es reach h = (
  le-leb (length es) (max_erasures m) (omega arith),
  λ e.
      let t = (refuses-fourteen m w es reach).0 e in
      t.1.different (never-two m w es reach t.0 h t.1.first t.1.second t.1.first-near t.1.second-near),
)

-- ---- as it was with four erasures at most

module _ (m : ℕ) (w es : List ℕ) (odd : m % 2 ≡ 1) (h : length es ≤ 4) where
  -- the number of erasures passes question 3, then and now
  earlier-asked : within_asked m w es (radius m (length es)) ≡ earlier_asked m w es
  unfolding restore_asked
  earlier-asked = passes-radius m w es ∙ ap count (le-leb (length es) (max_erasures m) (omega arith) ∙ sym (le-leb (length es) 4 h))
    where
      count : Bool → Verdict
      count = λ b.
          word_asked m (length w)
          (ask b ErasureCount
          (ask (all_below (places m) es) ErasurePlace (ask (distinct es) ErasureDistinct (ask (symbols_from (order m) es 0 w) Symbol (Ok tt)))))

  -- by the verdict and the near codewords, of which there are no two
  earlier-by : (v : Verdict) (cs : List (List ℕ)) → within_asked m w es (radius m (length es)) ≡ v → nearby m es w (radius m (length es)) ≡ cs
      → (after v (decided m w es (found cs)) ≡ after v (earlier_decided m w es cs)) × (written v w (restored w (found cs)) ≡ written v w (earlier_restored w cs))
  unfolding restoration
  earlier-by (Err q) cs e f = (refl, refl)
  earlier-by (Ok tt) [] e f = (refl, refl)
  earlier-by (Ok tt) (c ∷ []) e f = (refl, refl)
  earlier-by (Ok tt) (c ∷ d ∷ cs) e f =
      absurd ((few-erasures m w es (radius m (length es)) (omega arith)).1
      (ap₂ (λ (v : Verdict) (xs : List (List ℕ)). after v (decided m w es (found xs))) e f))

pub as-earlier : AsEarlier
unfolding restoration
as-earlier m w es odd h =
    let r = radius m (length es) in
    let same = earlier-by m w es odd h (within_asked m w es r) (nearby m es w r) refl refl in
    let asked = earlier-asked m w es odd h in (
      same.0 ∙ ap (λ (v : Verdict). after v (earlier_decided m w es (nearby m es w r))) asked,
      same.1 ∙ ap (λ (v : Verdict). written v w (earlier_restored w (nearby m es w r))) asked,
    )

-- ---- a shorter reach

near-more : {m : ℕ} {es w : List ℕ} {r s : ℕ} {c : List ℕ} → r ≤ s → Near m es w r c → Near m es w s c
near-more h N = record { codeword = N.codeword; few = le_trans N.few h }

pub longer-reach : LongerReach
longer-reach m w es reach longer k few h p e =
    let a = (accepts m w es reach k (within_written m w es reach)).0 (e, refl) in
    let N = near-more h a.1.near in
    (accepts m w es longer k (within_written m w es reach)).1 (
      p,
      record { near = N; only = λ d N'. never-two m w es longer p few d _ N' N; count = a.1.count },
    )

-- what comes back is c, or nothing is within the reach
pub shorter-reach : ShorterReach
shorter-reach m w es reach c p C few = go (restoration m es w reach) refl
  where
    N : Near m es w (changes m es w c) c
    N = record { codeword = C; few = le_refl (changes m es w c) }

    same : (d : List ℕ) → Near m es w reach d → d ≡ c
    same d N' = alike m w es reach p d c reach (changes m es w c) N' N few

    go : (x : Restoration) → restoration m es w reach ≡ x
        → ((within_of m w es reach ≡ accepted (changes m es w c)) × (within_written m w es reach ≡ c)) ⊎ (within_of m w es reach ≡ refused 7)
    go none f = inr (simp (p, f))
    go (one d) f =
        let e = same d (finds-nearest m w es reach p d (changes m es w d) f refl).near in
        inl (simp (p, f, ap (changes m es w) e), written_one m w es reach d p f ∙ e)
    go several f =
        let t = (finds-several m w es reach p).0 f in
        absurd (t.different (same t.first t.first-near ∙ sym (same t.second t.second-near)))

-- ---- words that agree outside the same erasures

-- w with the erasures es, and w' with the erasures es'
record Alike (w w' es es' : List ℕ) : Type 0 where
  size : length w ≡ length w'
  erasures : SameErasures es es'
  outside : AgreeOutside es w w'

module _ {w w' es es' : List ℕ} (a : Alike w w' es es') where
  members : (p : ℕ) → member p es ≡ member p es'
  members = same-member es es' a.erasures

  flipped : Alike w' w es' es
  flipped =
      record {
        size = sym a.size;
        erasures = λ p. sym (a.erasures p);
        outside = λ p h t. sym (a.outside p (omega (arith, a.size)) (members p ∙ t));
      }

  below-too : (n : ℕ) → all_below n es ≡ true → all_below n es' ≡ true
  below-too n h = all_below-holds n es' (λ k l.
      let r = member-means (at es' k) es (members (at es' k) ∙ member-at (at es' k) es' k l refl) in
      subst (λ (x : ℕ). x < n) r.2 (all_below-means n es h r.0 r.1))

  distinct-too : distinct es ≡ true → distinct es' ≡ true
  distinct-too h = once-distinct es' (λ p. rw (← a.erasures p) (distinct-once es h p))

  symbols-too : (q : ℕ) → symbols_from q es 0 w ≡ true → symbols_from q es' 0 w' ≡ true
  symbols-too q h = symbols-holds q es' w' (λ k l t.
      let o = members k ∙ t in
      let i : k < length w = omega (arith, a.size) in
      subst (λ (x : ℕ). x < q) (a.outside k i o) (symbols-means q es w h k i o))

  same_at : (p : ℕ) → member p es ≡ false → at w p ≡ at w' p
  same_at p t = go (dec_lt p (length w))
    where
      go : Dec (p < length w) → at w p ≡ at w' p
      go (yes h) = a.outside p h t
      go (no n) = get_or-eq_default w 0 (omega arith) ∙ sym (get_or-eq_default w' 0 (omega (arith, a.size)))

  module _ (m : ℕ) where
    same-changes : (c : List ℕ) → changes m es w c ≡ changes m es' w' c
    same-changes c = total-cong _ _ (places m) (λ p h. rw (← members p) (go p (member p es) refl))
      where
        go : (p : ℕ) (b : Bool) → member p es ≡ b → cond b 0 (differ (at w p) (at c p)) ≡ cond b 0 (differ (at w' p) (at c p))
        go p true e = refl
        go p false e = ap (λ (x : ℕ). differ x (at c p)) (same_at p e)

    same-restoration : (r : ℕ) → restoration m es w r ≡ restoration m es' w' r
    unfolding restoration nearby
    same-restoration r = ap found (keep-cong _ _ (λ c. ap (λ (n : ℕ). leb n r) (same-changes c)) (codewords m))

    same-decided : (r : Restoration) → decided m w es r ≡ decided m w' es' r
    same-decided none = refl
    same-decided (one c) = ap accepted (same-changes c)
    same-decided several = refl

same_asked : {w w' es es' : List ℕ} → Alike w w' es es' → (m : ℕ) → restore_asked m w es ≡ restore_asked m w' es'
unfolding restore_asked
same_asked {w} {w'} {es} {es'} a m =
    simp (
      a.size,
      same_length es es' a.erasures,
      bool_eq _ _ (below-too a (places m)) (below-too (flipped a) (places m)),
      bool_eq _ _ (distinct-too a) (distinct-too (flipped a)),
      bool_eq _ _ (symbols-too a (order m)) (symbols-too (flipped a) (order m)),
    )

same-within : {w w' es es' : List ℕ} → Alike w w' es es' → (m reach : ℕ) → within_asked m w es reach ≡ within_asked m w' es' reach
unfolding within_asked
same-within {w} {w'} {es} {es'} a m reach =
    ap₂ (λ (v : Verdict) (n : ℕ). followed v (ask (leb reach (radius m n)) Reach (Ok tt))) (same_asked a m) (same_length es es' a.erasures)

-- words that agree outside the same erasures get the same answers at the same reach and, if accepted, end equal
pub same-restored : SameRestored
same-restored m w w' es es' reach l same agree = (
  ap₂ after asked (ap (decided m w es) found' ∙ same-decided a m (restoration m es' w' reach)),
  λ k e.
      let r = accepted-means m w es (within_asked m w es reach) (restoration m es w reach) k e in
      written_one m w es reach r.1 r.0 r.2 ∙ sym (written_one m w' es' reach r.1 (sym asked ∙ r.0) (sym found' ∙ r.2)),
)
  where
    a : Alike w w' es es'
    a = record { size = l; erasures = same; outside = agree }

    asked : within_asked m w es reach ≡ within_asked m w' es' reach
    asked = same-within a m reach

    found' : restoration m es w reach ≡ restoration m es' w' reach
    found' = same-restoration a m reach

-- ---- the display

same-syndromes : {w w' es es' : List ℕ} → Alike w w' es es' → (m : ℕ) → is_width m ≡ true → syndromes_without m es w ≡ syndromes_without m es' w'
same-syndromes {w} {w'} {es} {es'} a m v =
    five-cong _ _ (λ k h. syndrome-cong (field_of m v) (masked es (at w)) (masked es' (at w'))
    (λ p l. rw (← members a p) (go p (member p es) refl)) k h)
  where
    go : (p : ℕ) (b : Bool) → member p es ≡ b → cond b 0 (at w p) ≡ cond b 0 (at w' p)
    go p true e = refl
    go p false e = same_at a p e

-- words that agree outside the same erasures have the same syndromes without them
pub same-given : SameGiven
same-given m w w' es es' l same agree =
    (ap done asked, ap (λ (v : Verdict). shown v (syndromes_without m es w)) asked ∙ go (restore_asked m w' es') refl)
  where
    a : Alike w w' es es'
    a = record { size = l; erasures = same; outside = agree }

    asked : restore_asked m w es ≡ restore_asked m w' es'
    asked = same_asked a m

    go : (v : Verdict) → restore_asked m w' es' ≡ v → shown v (syndromes_without m es w) ≡ shown v (syndromes_without m es' w')
    go (Ok tt) e = same-syndromes a m (given m w' es' e).width
    go (Err q) e = refl
