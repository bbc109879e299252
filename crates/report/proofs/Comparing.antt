-- Two day sheets side by side. Assumes nothing.
use Rattle.std.proofs.Common.{Ok, Err, Result}
use Rattle.field.proofs.Base.{◌≡◌, refl, sym, ap, ap₂, ◌∙◌, subst, Bool, true, false, cond, ◌&&◌, List, [], ◌∷◌, ℕ, zero, suc, ◌+◌, ◌<◌, ◌≤◌, add-one}
use Rattle.field.proofs.Base.{arith, eq-eqb, ne_eqb, eqb-true, eqb-false, eqb, length, get_or, take, drop, drop-cons, drop_of_length-le, get_or-take, length-take-le}
use Rattle.std.specs.Prelude.{count_by, ◌==◌}
use Rattle.std.specs.List.{fold}
use Rattle.std.proofs.Common.{zero-add}
use denote.Ref.{Bor}
use Rattle.field.specs.Question.{Verdict, Outcome, accepted, refused, refusal, ask, after}
use Rattle.field.specs.declared.Question.{Question}
use Rattle.field.specs.declared.Question.TheVariants.{Length, RecordNumber}
use Rattle.field.proofs.Ask.{ask-yes, and-true-left, and-true-right}
use Rattle.code.specs.Call.{followed}
use Rattle.code.specs.Demands.{occurs}
use Rattle.card.specs.Record.{on_accept}
use Rattle.sheet.specs.Sheet.{quarters, sheet_size}
use Rattle.sheet.proofs.Asking.{after-accepted}
use Rattle.report.specs.Day.{has_record, slot_of, Day, sheet, day_of, day_symbols}
use Rattle.report.specs.inner.Parts.{day_in, PartFrom}
use Rattle.report.specs.Compare.{sign_of, signs_of, sheet_signs, compared_of, shown_signs, choice, ShowsSheets, Shows}
use Rattle.report.specs.Compare.{numbers_asked, symbols_at, compare_of, Compares, part_of, HandsBack, into_asked, into_of, ComparesInto}
use Rattle.report.specs.declared.day.Reading.{Reading}
use Rattle.report.specs.declared.compare.Side.{Side}
use Rattle.report.specs.declared.compare.Side.TheVariants.{Controller, Cupboard}
use Rattle.report.specs.declared.compare.Comparison.{Comparison}

-- ---- signs

pub signs-long : (xs ys : List ℕ) → length xs ≡ length ys → length (signs_of xs ys) ≡ length xs
signs-long [] ys e = refl
signs-long (x ∷ xs) [] e = absurd (omega arith)
signs-long (x ∷ xs) (y ∷ ys) e = let l : length xs ≡ length ys = omega arith in ap suc (signs-long xs ys l)

signs-at : (xs ys : List ℕ) → length xs ≡ length ys → (k : ℕ) → get_or (signs_of xs ys) k 0 ≡ sign_of (get_or xs k 0) (get_or ys k 0)
signs-at [] [] e k = refl
signs-at [] (y ∷ ys) e k = absurd (omega arith)
signs-at (x ∷ xs) [] e k = absurd (omega arith)
signs-at (x ∷ xs) (y ∷ ys) e zero = refl
signs-at (x ∷ xs) (y ∷ ys) e (suc k) = signs-at xs ys (omega arith) k

-- of two sheets
module _ (ss ts : List ℕ) (es : length ss ≡ sheet_size) (et : length ts ≡ sheet_size) where
  same-long : length (take quarters ss) ≡ length (take quarters ts)
  same-long = length-take-le quarters ss (omega arith) ∙ sym (length-take-le quarters ts (omega arith))

  pub sheet-signs-long : length (sheet_signs ss ts) ≡ quarters
  sheet-signs-long = signs-long (take quarters ss) (take quarters ts) same-long ∙ length-take-le quarters ss (omega arith)

  pub sheet-signs-at : (k : ℕ) → k < quarters → get_or (sheet_signs ss ts) k 0 ≡ sign_of (get_or ss k 0) (get_or ts k 0)
  sheet-signs-at k h =
      signs-at (take quarters ss) (take quarters ts) same-long k ∙ ap₂ sign_of (get_or-take quarters ss k 0 h) (get_or-take quarters ts k 0 h)

-- ---- how often a number stands in a list, by the library's words

same-test : (x s : ℕ) (b : Bool) → eqb s x ≡ b → (x == s) ≡ b
same-test x s true e = eq-eqb x s (sym (eqb-true s x e))
same-test x s false e = ne_eqb x s (λ h. eqb-false s x e (sym h))

occurs-from : (s n : ℕ) (xs : List ℕ) → fold (λ a x. a + cond (x == s) 1 0) n xs ≡ n + occurs s xs
unfolding occurs
occurs-from s n [] = omega arith
occurs-from s n (x ∷ xs) =
    let one : Bool → ℕ = λ b. cond b 1 0 in
    let e = ap one (same-test x s (eqb s x) refl) in
    omega (arith, occurs-from s (n + cond (x == s) 1 0) xs, e)

pub occurs-counted : (s : ℕ) (xs : List ℕ) → count_by (λ x. x == s) xs ≡ occurs s xs
occurs-counted s xs = occurs-from s 0 xs ∙ zero-add (occurs s xs)

-- ---- how often a number stands in a list: n times before place i

module _ (s : ℕ) (xs : List ℕ) (i : ℕ) where
  pub occurs-step : i < length xs → occurs s (drop i xs) ≡ cond (eqb s (get_or xs i 0)) 1 0 + occurs s (drop (i + 1) xs)
  unfolding occurs
  occurs-step h = ap (occurs s) one
    where
      one : drop i xs ≡ get_or xs i 0 ∷ drop (i + 1) xs
      one = rw (add-one, drop-cons xs i 0)

  module _ (n : ℕ) (e : n + occurs s (drop i xs) ≡ occurs s xs) where
    -- n' times before the next place
    module _ (h : i < length xs) (n' : ℕ) where
      counted : (b : Bool) → eqb s (get_or xs i 0) ≡ b → n' ≡ n + cond b 1 0 → n' + occurs s (drop (i + 1) xs) ≡ occurs s xs
      counted b t f = omega (arith, e, f, occurs-step h ∙ ap (λ (c : Bool). cond c 1 0 + occurs s (drop (i + 1) xs)) t)

      pub occurs-yes : get_or xs i 0 ≡ s → n' ≡ n + 1 → n' + occurs s (drop (i + 1) xs) ≡ occurs s xs
      occurs-yes t f = counted true (eq-eqb s (get_or xs i 0) (sym t)) f

      pub occurs-no : (get_or xs i 0 ≡ s → ⊥) → n' ≡ n → n' + occurs s (drop (i + 1) xs) ≡ occurs s xs
      occurs-no t f = counted false (ne_eqb s (get_or xs i 0) (λ z. t (sym z))) (omega (arith, f))

    pub occurs-end : length xs ≤ i → n ≡ occurs s xs
    unfolding occurs
    occurs-end h =
        let none : occurs s (drop i xs) ≡ 0 = ap (occurs s) (drop_of_length-le xs h) in
        omega (arith, e, none)

-- ---- two sheets and their outcome

-- a refusal is shown by the refused outcome
pub shows-refused : (o : Outcome) (ss ts : List ℕ) (q : Question) → refused (refusal q) ≡ o → (x : Result Comparison Question) → x ≡ Err q → Shows o ss ts x
shows-refused o ss ts q e x f = rw f e

-- what a refusal shows
pub refused-shown : (o : Outcome) (ss ts : List ℕ) (x : Result Comparison Question) → Shows o ss ts x → (q : Question) → x ≡ Err q → refused (refusal q) ≡ o
refused-shown o ss ts x S q e = subst (Shows o ss ts) e S

-- ---- the numbers of the records

pub numbers-are : (c : List ℕ) (i : ℕ) (d : List ℕ) (j : ℕ) (a b : Bool) → a ≡ has_record c i → b ≡ has_record d j
    → ask (a && b) RecordNumber (Ok tt) ≡ numbers_asked c i d j
unfolding numbers_asked
numbers-are c i d j a b ea eb = ap₂ (λ (x y : Bool). ask (x && y) RecordNumber (Ok tt)) ea eb

-- ---- the comparison of two records

module _ (c : List ℕ) (i : ℕ) (d : List ℕ) (j : ℕ) (v : Verdict) (ev : v ≡ numbers_asked c i d j) where
  numbered : (u : Verdict) → v ≡ u → after u (compared_of (day_of (slot_of c i)) (day_of (slot_of d j))) ≡ compare_of c i d j
  unfolding compare_of
  numbered u e = ap (λ (x : Verdict). after x (compared_of (day_of (slot_of c i)) (day_of (slot_of d j)))) (sym e ∙ ev)

  pub compares-refused : (q : Question) → v ≡ Err q → refused (refusal q) ≡ compare_of c i d j
  compares-refused q e = numbered (Err q) e

  -- x is what was read of the slot a
  module _ (p : v ≡ (Ok tt)) (a : List ℕ) (ea : a ≡ slot_of c i) (x : Result Reading Question) (X : day_in x ≡ day_of a) where
    first : day_in x ≡ day_of (slot_of c i)
    first = X ∙ ap day_of ea

    pub first-refused : (q : Question) → x ≡ Err q → refused (refusal q) ≡ compare_of c i d j
    first-refused q e = ap (λ (u : Day). compared_of u (day_of (slot_of d j))) (ap day_in (sym e) ∙ first) ∙ numbered (Ok tt) p

    -- y is what was read of the slot b
    module _ (r : Reading) (er : x ≡ Ok r) (b : List ℕ) (eb : b ≡ slot_of d j) (y : Result Reading Question) (Y : day_in y ≡ day_of b) where
      second : day_in y ≡ day_of (slot_of d j)
      second = Y ∙ ap day_of eb

      both : (u : Result Reading Question) → y ≡ u → compared_of (sheet r.changed r.symbols) (day_in u) ≡ compare_of c i d j
      both u e = ap₂ compared_of (ap day_in (sym er) ∙ first) (ap day_in (sym e) ∙ second) ∙ numbered (Ok tt) p

      pub second-refused : (q : Question) → y ≡ Err q → refused (refusal q) ≡ compare_of c i d j
      second-refused q e = both (Err q) e

      pub compares : (s : Reading) → y ≡ Ok s → (z : Result Comparison Question)
          → Shows (compared_of (sheet r.changed r.symbols) (sheet s.changed s.symbols)) r.symbols s.symbols z → Compares c i d j z
      compares s e z S =
          let o = both (Ok s) e in
          let sx : r.symbols ≡ symbols_at c i = ap day_symbols (ap day_in (sym er) ∙ first) in
          let sy : s.symbols ≡ symbols_at d j = ap day_symbols (ap day_in (sym e) ∙ second) in
          rw (sym o, sym sx, sym sy) S

-- ---- with lent signs, m or length old of them

module _ (c : List ℕ) (i : ℕ) (d : List ℕ) (j m : ℕ) (v : Verdict) (ev : v ≡ numbers_asked c i d j) where
  into : (u : Verdict) → v ≡ u → followed u (ask (eqb m quarters) Length (Ok tt)) ≡ into_asked c i d j m
  unfolding into_asked
  into u e = ap (λ (x : Verdict). followed x (ask (eqb m quarters) Length (Ok tt))) (sym e ∙ ev)

  pub into-yes : v ≡ (Ok tt) → m ≡ quarters → (Ok tt) ≡ into_asked c i d j m
  into-yes e h = ap (λ (b : Bool). ask b Length (Ok tt)) (sym (eq-eqb m quarters h)) ∙ into (Ok tt) e

  pub into-length : v ≡ (Ok tt) → (m ≡ quarters → ⊥) → Err Length ≡ into_asked c i d j m
  into-length e h = ap (λ (b : Bool). ask b Length (Ok tt)) (sym (ne_eqb m quarters h)) ∙ into (Ok tt) e

  pub into-no : (q : Question) → v ≡ Err q → (r : Verdict) → r ≡ Err q → r ≡ into_asked c i d j m
  into-no q e r f = f ∙ into (Err q) e

module _ (c : List ℕ) (i : ℕ) (d : List ℕ) (j : ℕ) (old : List ℕ) (v : Verdict) (ev : v ≡ into_asked c i d j (length old)) where
  into-is : (u : Verdict) → v ≡ u → after u (compare_of c i d j) ≡ into_of c i d j old
  unfolding into_of
  into-is u e = ap (λ (x : Verdict). after x (compare_of c i d j)) (sym e ∙ ev)

  pub into-size : v ≡ (Ok tt) → length old ≡ quarters
  unfolding into_asked
  into-size e = eqb-true (length old) quarters (ask-yes (eqb (length old) quarters) Length (Ok tt) (go (numbers_asked c i d j) (sym ev ∙ e)))
    where
      go : (u : Verdict) → followed u (ask (eqb (length old) quarters) Length (Ok tt)) ≡ (Ok tt) → ask (eqb (length old) quarters) Length (Ok tt) ≡ (Ok tt)
      go (Ok tt) h = h
      go (Err q) h = let z : ◌≡◌ {A = ℕ} 0 1 = cc in absurd (omega arith)

  -- the signs stay as they are
  written-not : (q : Question) → refused (refusal q) ≡ into_of c i d j old → (z : Result Comparison Question) → z ≡ Err q → ComparesInto c i d j old z old
  written-not q o z f = record {
    shows = shows-refused (into_of c i d j old) (symbols_at c i) (symbols_at d j) q o z f;
    written = ap (λ (x : Outcome). on_accept x old (sheet_signs (symbols_at c i) (symbols_at d j))) o;
  }

  pub into-refused : (q : Question) → v ≡ Err q → (z : Result Comparison Question) → z ≡ Err q → ComparesInto c i d j old z old
  into-refused q e = written-not q (into-is (Err q) e)

  -- x is the comparison
  module _ (e : v ≡ (Ok tt)) (x : Result Comparison Question) (X : Compares c i d j x) where
    pub compared-no : (q : Question) → x ≡ Err q → (z : Result Comparison Question) → z ≡ Err q → ComparesInto c i d j old z old
    compared-no q f = written-not q (refused-shown _ _ _ x X q f ∙ into-is (Ok tt) e)

    pub into-compared : (y : Comparison) → x ≡ Ok y → (new : List ℕ) → new ≡ y.signs → ComparesInto c i d j old (Ok y) new
    into-compared y f new g =
        let S : ShowsSheets (compare_of c i d j) (symbols_at c i) (symbols_at d j) y = subst (Compares c i d j) f X in
        let o : compare_of c i d j ≡ into_of c i d j old = into-is (Ok tt) e in
        record {
          shows = subst (λ (u : Outcome). ShowsSheets u (symbols_at c i) (symbols_at d j) y) o S;
          written =
              g
              ∙ S.signs
              ∙ ap (λ (u : Outcome). shown_signs u (symbols_at c i) (symbols_at d j)) (sym S.answer)
              ∙ accepted-signs y.choice
              ∙ ap (λ (u : Outcome). on_accept u old (sheet_signs (symbols_at c i) (symbols_at d j))) (S.answer ∙ o);
        }
      where
        accepted-signs : (w : Side) → shown_signs (choice w) (symbols_at c i) (symbols_at d j) ≡ on_accept (choice w) old (sheet_signs (symbols_at c i) (symbols_at d j))
        accepted-signs Controller = refl
        accepted-signs Cupboard = refl

-- ---- the chosen part; p is the slot that was found

-- what was compared are records of their cards
module _ (c : List ℕ) (i : ℕ) (d : List ℕ) (j w : ℕ) (e : compare_of c i d j ≡ accepted w) where
  numbers : (has_record c i && has_record d j) ≡ true
  unfolding compare_of numbers_asked
  numbers =
      ask-yes (has_record c i && has_record d j) RecordNumber (Ok tt)
      (after-accepted (numbers_asked c i d j) (compared_of (day_of (slot_of c i)) (day_of (slot_of d j))) w (sym e))

  pub compared-number : has_record c i ≡ true
  compared-number = and-true-left (has_record c i) (has_record d j) numbers

  pub compared-other : has_record d j ≡ true
  compared-other = and-true-right (has_record c i) (has_record d j) numbers

pub handed-back : (x : Bor (List ℕ)) (i : ℕ) (y : Bor (List ℕ)) (j : ℕ) (o : Outcome) → o ≡ compare_of x.now i y.now j
    → (p : Bor (List ℕ)) → PartFrom o x i y j p → HandsBack x i y j p
handed-back x i y j o e p P = record {
  bytes = P.bytes ∙ ap (λ (u : Outcome). part_of u (slot_of x.now i) (slot_of y.now j)) e;
  controller = λ h. P.controller (e ∙ h) (compared-number x.now i y.now j 1 h);
  cupboard = λ h. P.cupboard (e ∙ h) (compared-other x.now i y.now j 2 h);
}

-- the comparison x, and the part p beside it
module _ (c : Bor (List ℕ)) (i : ℕ) (d : Bor (List ℕ)) (j : ℕ) (x : Comparison) (X : Compares c.now i d.now j (Ok x)) where
  pub part-handed : (p : Bor (List ℕ)) → PartFrom (choice x.choice) c i d j p → HandsBack c i d j p
  part-handed p P = handed-back c i d j (choice x.choice) X.answer p P
