-- A bay's call: the record that costs a rewrite, and the answers of the functions. Assumes nothing.
use Rattle.std.proofs.Common.{Ok, Err, Result, None, Some, Option}
use Rattle.field.proofs.Base.{lt-ltb, le-ltb, ltb-true, ◌≡◌, refl, sym, ap, ap₂, ◌∙◌, subst, ◌≢◌, Bool, true, false, cond, not, ◌||◌, List, ℕ, ◌≤◌, arith}
use Rattle.field.proofs.Base.{◌<◌, ltb, length, not-true, not-false}
use mathlib.Core.Bool.{or-true}
use Rattle.field.specs.Question.{Outcome, accepted, refused, refusal, ask, after}
use Rattle.field.specs.declared.Question.{Question}
use Rattle.field.specs.declared.Question.TheVariants.{Length, Bay, Rewrite}
use Rattle.code.specs.Call.{same_bytes, repair}
use Rattle.code.proofs.Same.{same_refl, same-equal, compared}
use Rattle.card.specs.Record.{erasure_bytes, record_size, on_accept}
use Rattle.card.proofs.Layouts.{length-no}
use Rattle.card.proofs.Recording.{restores-refused, short-refused}
use Rattle.card.proofs.Refusals.{refusals-within, refusals}
use Rattle.card.proofs.Again as Again
use Rattle.dock.specs.declared.Rewrites.{Rewrites}
use Rattle.dock.specs.declared.Served.{Served}
use Rattle.dock.specs.Dock.{bays, any_left, spent, answer_at, content_at, Call, call_on, answer_of, content_of, call_of, call_written, call_left, Serves}
use Rattle.dock.specs.inner.Parts.{RestoresAt, Settles}
use Rattle.dock.specs.Dock.{allowed, remaining, granted, left_on, served_changes, served_left}
use Rattle.dock.specs.Demands.{AsWithout, RefusedStays, UnlessDenied}

-- ---- restoring at a reach

-- a record of another length
short-at : (reach : Option ℕ) (r : List ℕ) → (length r ≡ record_size → ⊥) → refused (refusal Length) ≡ answer_at reach r
short-at None r n = short-refused r n
short-at (Some k) r n = (restores-refused r k (Err Length) Length (length-no erasure_bytes r n) refl (Err Length) refl r refl).answer

-- a refused record stays as it was
stays_at : (reach : Option ℕ) (r : List ℕ) (n : ℕ) → answer_at reach r ≡ refused n → content_at reach r ≡ r
stays_at None r n e = Again.refused-stays r n e
stays_at (Some k) r n e = Again.within-stays r k n e

-- no question of a record has the number 19
pub late-at : (reach : Option ℕ) (r : List ℕ) → answer_at reach r ≢ refused 19
late-at None r e = omega (arith, refusals r 19 e)
late-at (Some k) r e = omega (arith, refusals-within r k 19 e)

-- ---- a restoring that was accepted

module _ (left : Rewrites) (bay : ℕ) (old new : List ℕ) (r : Bool) (t : (r ≡ true → old ≡ new) × (old ≡ new → r ≡ true)) where
  told : r ≡ same_bytes old new
  told = compared r old new new refl t

  pub settles-same : r ≡ true → Settles left bay old new (Ok left) old
  settles-same y =
      let s : same_bytes old new ≡ true = sym told ∙ y in
      record { rest = simp s; content = simp s (same-equal old new s) }

  module _ (n : r ≡ false) (b : Bool) (eb : b ≡ any_left left bay) where
    pub settles-denied : not b ≡ true → Settles left bay old new (Err Rewrite) old
    settles-denied y =
        let s : same_bytes old new ≡ false = sym told ∙ n in
        let a : any_left left bay ≡ false = sym eb ∙ not-true b y in
        record { rest = simp (s, a); content = simp (s, a) }

    pub settles-spent : not b ≡ false → (rest : Rewrites) → rest ≡ spent left bay → (final : List ℕ) → final ≡ new
        → Settles left bay old new (Ok rest) final
    settles-spent y rest er final ef =
        let s : same_bytes old new ≡ false = sym told ∙ n in
        let a : any_left left bay ≡ true = sym eb ∙ not-false b y in
        record { rest = simp (s, a) (ap Ok er); content = simp (s, a) ef }

-- the call's result, where restoring changes k places
abbrev served : ℕ → Result Rewrites Question → Result Served Question
served k (Ok rest) = Ok (record { changed = k; left = rest })
served k (Err q) = Err q

module _ (k : ℕ) (left rest : Rewrites) where
  settled-answer : (b : Bool) → repair (served_changes (served k (cond b (Ok rest) (Err Rewrite)))) ≡ granted (accepted k) b
  settled-answer true = refl
  settled-answer false = refl

  settled-left : (b : Bool) → served_left left (served k (cond b (Ok rest) (Err Rewrite))) ≡ left_on (granted (accepted k) b) left rest
  settled-left true = refl
  settled-left false = refl

settled-content : (k : ℕ) (old new : List ℕ) (b : Bool) → cond b new old ≡ on_accept (granted (accepted k) b) old new
settled-content k old new true = refl
settled-content k old new false = refl

-- ---- the call

-- by its answer
module _ (left : Rewrites) (c : Call) (o : Outcome) (e : o ≡ call_of left c) where
  written-by : on_accept o c.lent (content_of c) ≡ call_written left c
  unfolding call_written
  written-by = ap (λ (x : Outcome). on_accept x c.lent (content_of c)) e

  left_by : left_on o left (remaining left c.bay c.lent (content_of c)) ≡ call_left left c
  unfolding call_left
  left_by = ap (λ (x : Outcome). left_on x left (remaining left c.bay c.lent (content_of c))) e

serves-refused : (left : Rewrites) (c : Call) (q : Question) → refused (refusal q) ≡ call_of left c
    → (v : Result Served Question) → v ≡ Err q → Serves left c v c.lent
serves-refused left c q e v f =
    record {
      answer = ap (λ (r : Result Served Question). repair (served_changes r)) f ∙ e;
      rest = ap (served_left left) f ∙ left_by left c (refused (refusal q)) e;
      content = written-by left c (refused (refusal q)) e;
    }

-- a bay that passed
module _ (left : Rewrites) (c : Call) (h : c.bay < bays) where
  pub passed : granted (answer_of c) (allowed left c.bay c.lent (content_of c)) ≡ call_of left c
  unfolding call_of
  passed = simp (lt-ltb c.bay bays h)

  not-restored : (q : Question) → refused (refusal q) ≡ answer_of c → (v : Result Served Question) → v ≡ Err q → Serves left c v c.lent
  not-restored q e =
      serves-refused left c q (ap (λ (o : Outcome). granted o (allowed left c.bay c.lent (content_of c))) e ∙ passed)

  settled : (k : ℕ) → accepted k ≡ answer_of c → (new : List ℕ) → new ≡ content_of c
      → (r : Result Rewrites Question) (final : List ℕ) → Settles left c.bay c.lent new r final → Serves left c (served k r) final
  settled k o new w r final S =
      let b = allowed left c.bay c.lent new in
      let got = granted (accepted k) b in
      let g : got ≡ call_of left c =
      ap₂ (λ (y : Outcome) (l : List ℕ). granted y (allowed left c.bay c.lent l)) o w ∙ passed in
      record {
        answer = ap (λ (y : Result Rewrites Question). repair (served_changes (served k y))) S.rest ∙ settled-answer k left _ b ∙ g;
        rest = ap (λ (y : Result Rewrites Question). served_left left (served k y)) S.rest
            ∙ settled-left k left _ b
            ∙ ap (λ (l : List ℕ). left_on got left (remaining left c.bay c.lent l)) w
            ∙ left_by left c got g;
        content = S.content ∙ settled-content k c.lent new b ∙ ap (on_accept got c.lent) w ∙ written-by left c got g;
      }

module _ (left : Rewrites) (bay : ℕ) (reach : Option ℕ) (old : List ℕ) where
  pub serves-no-bay : bays ≤ bay → Serves left (call_on bay reach old) (Err Bay) old
  unfolding call_of
  serves-no-bay h = serves-refused left (call_on bay reach old) Bay (simp (le-ltb bay bays h)) (Err Bay) refl

  module _ (h : bay < bays) where
    pub serves-short : (length old ≡ record_size → ⊥) → Serves left (call_on bay reach old) (Err Length) old
    serves-short n = not-restored left (call_on bay reach old) h Length (short-at reach old n) (Err Length) refl

    -- the record was restored in a copy, with the answer x
    module _ (copy : List ℕ) (ec : copy ≡ old) (x : Result ℕ Question) (new : List ℕ) (R : RestoresAt reach copy x new) where
      told-answer : repair x ≡ answer_at reach old
      told-answer = R.answer ∙ ap (answer_at reach) ec

      pub serves-no : (q : Question) → x ≡ Err q → (v : Result Served Question) → v ≡ Err q → Serves left (call_on bay reach old) v old
      serves-no q p = not-restored left (call_on bay reach old) h q (ap repair (sym p) ∙ told-answer)

      module _ (k : ℕ) (p : x ≡ Ok k) (r : Result Rewrites Question) (final : List ℕ) (S : Settles left bay old new r final) where
        serves-settled : Serves left (call_on bay reach old) (served k r) final
        serves-settled =
            settled left (call_on bay reach old) h k (ap repair (sym p) ∙ told-answer) new (R.content ∙ ap (content_at reach) ec) r final S

        pub serves-paid : (rest : Rewrites) → r ≡ Ok rest → Serves left (call_on bay reach old) (Ok (record { changed = k; left = rest })) final
        serves-paid rest e =
            subst (λ (y : Result Rewrites Question). Serves left (call_on bay reach old) (served k y) final) e serves-settled

        pub serves-denied : (q : Question) → r ≡ Err q → (v : Result Served Question) → v ≡ Err q → Serves left (call_on bay reach old) v final
        serves-denied q e v f =
            subst (λ (y : Result Served Question). Serves left (call_on bay reach old) y final) (ap (served k) e ∙ sym f) serves-settled

-- ---- a call that is not denied

granted-yes : (o : Outcome) → granted o true ≡ o
granted-yes (accepted k) = refl
granted-yes (refused n) = refl

-- the record after a call that answers as without bays
content-is : (left : Rewrites) (c : Call) → answer_of c ≡ call_of left c → call_written left c ≡ content_of c
content-is left c e = sym (written-by left c (answer_of c) e) ∙ go (answer_of c) refl
  where
    go : (o : Outcome) → o ≡ answer_of c → on_accept o c.lent (content_of c) ≡ content_of c
    go (accepted k) f = refl
    go (refused n) f = sym (stays_at c.reach c.lent n (sym f))

pub unless-denied : UnlessDenied
unless-denied left c h d =
    let e = go (answer_of c) (allowed left c.bay c.lent (content_of c)) refl refl in
    (sym e, content-is left c e)
  where
    go : (o : Outcome) (b : Bool) → answer_of c ≡ o → allowed left c.bay c.lent (content_of c) ≡ b → answer_of c ≡ call_of left c
    go o true eo eb = sym (ap (granted (answer_of c)) eb ∙ granted-yes (answer_of c)) ∙ passed left c h
    go (refused n) false eo eb = eo ∙ sym (ap₂ granted eo eb) ∙ passed left c h
    go (accepted k) false eo eb = absurd (d (sym (passed left c h) ∙ ap₂ granted eo eb))

-- with a rewrite left to the bay, its call restores as without bays
pub as-without : (left : Rewrites) (c : Call) → c.bay < bays → any_left left c.bay ≡ true → AsWithout left c
as-without left c h some =
    record {
      answer = sym answer;
      content = content-is left c answer;
      not-denied = λ e. late-at c.reach c.lent (answer ∙ e);
    }
  where
    yes : allowed left c.bay c.lent (content_of c) ≡ true
    yes = ap (λ (b : Bool). same_bytes c.lent (content_of c) || b) some ∙ or-true (same_bytes c.lent (content_of c))

    answer : answer_of c ≡ call_of left c
    answer = sym (ap (granted (answer_of c)) yes ∙ granted-yes (answer_of c)) ∙ passed left c h

-- ---- the cost of a call

-- the record came back the same, and nothing was spent; or another, and one of the bay's rewrites was
pub data Cost (left : Rewrites) (c : Call) : Type 0 where
  free : same_bytes c.lent (call_written left c) ≡ true → call_left left c ≡ left → Cost left c
  paid : same_bytes c.lent (call_written left c) ≡ false → call_left left c ≡ spent left c.bay → c.bay < bays
      → any_left left c.bay ≡ true → Cost left c

accepted-bay : (b : Bool) (o : Outcome) (k : ℕ) → accepted k ≡ after (ask b Bay (Ok tt)) o → (b ≡ true) × (accepted k ≡ o)
accepted-bay true o k e = (refl, e)
accepted-bay false o k e = let z : ◌≡◌ {A = ℕ} 0 1 = cc in absurd (omega arith)

accepted-allowed : (o : Outcome) (b : Bool) (k : ℕ) → accepted k ≡ granted o b → b ≡ true
accepted-allowed (accepted j) true k e = refl
accepted-allowed (accepted j) false k e = let z : ◌≡◌ {A = ℕ} 0 1 = cc in absurd (omega arith)
accepted-allowed (refused n) b k e = let z : ◌≡◌ {A = ℕ} 0 1 = cc in absurd (omega arith)

module _ (left : Rewrites) (c : Call) (k : ℕ) (e : accepted k ≡ call_of left c) where
  accepted-means : (ltb c.bay bays ≡ true)
      × (accepted k ≡ granted (answer_of c) (allowed left c.bay c.lent (content_of c)))
  unfolding call_of
  accepted-means = accepted-bay (ltb c.bay bays) (granted (answer_of c) (allowed left c.bay c.lent (content_of c))) k e

  accepted-cost : (b : Bool) → b ≡ same_bytes c.lent (content_of c) → Cost left c
  accepted-cost true s =
      free (ap (same_bytes c.lent) (sym (written-by left c (accepted k) e)) ∙ sym s)
      (sym (left_by left c (accepted k) e) ∙ ap (λ (b : Bool). cond b left (spent left c.bay)) (sym s))
  accepted-cost false s =
      paid (ap (same_bytes c.lent) (sym (written-by left c (accepted k) e)) ∙ sym s)
      (sym (left_by left c (accepted k) e) ∙ ap (λ (b : Bool). cond b left (spent left c.bay)) (sym s))
      (ltb-true c.bay bays accepted-means.0)
      (ap (λ (b : Bool). b || any_left left c.bay) s ∙ accepted-allowed (answer_of c) _ k accepted-means.1)

pub cost : (left : Rewrites) (c : Call) → Cost left c
cost left c = go (call_of left c) refl
  where
    go : (o : Outcome) → o ≡ call_of left c → Cost left c
    go (accepted k) e = accepted-cost left c k e (same_bytes c.lent (content_of c)) refl
    go (refused n) e =
        free (ap (same_bytes c.lent) (sym (written-by left c (refused n) e)) ∙ same_refl c.lent) (sym (left_by left c (refused n) e))

pub refused-stays : RefusedStays
refused-stays left c n e = (sym (written-by left c (refused n) (sym e)), sym (left_by left c (refused n) (sym e)))
