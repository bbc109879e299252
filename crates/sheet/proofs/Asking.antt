-- What the answers of the functions that put the questions say, for the calls above them. Assumes nothing.
use Rattle.std.proofs.Common.{Ok, Err}
use Rattle.field.proofs.Base.{◌≡◌, refl, sym, ap, ◌∙◌, ◌≢◌, Bool, true, false, cond, not, List, ℕ, ◌+◌, ◌-◌, arith, eq-eqb, ne_eqb, not-true}
use Rattle.field.proofs.Base.{not-false, eqb, length, take, drop, drop-drop}
use Rattle.field.specs.Field.{order}
use Rattle.field.specs.Question.{Verdict, Outcome, accepted, refused, refusal, ask, after, is_width, all_below}
use Rattle.field.specs.inner.Operand.{order_of}
use Rattle.field.specs.declared.Question.{Question}
use Rattle.field.specs.declared.Question.TheVariants.{Width, Length, Symbol, Syndrome, SheetWidth, Date, Unused}
use Rattle.field.proofs.Ask.{width-yes, width-no, order_is}
use Rattle.code.specs.Word.{checks, places}
use Rattle.code.specs.Call.{all_zero, zero_syndromes, done, is_codeword_asked, is_codeword_of}
use Rattle.code.proofs.calls.Answers.{test-width, test-size, test-symbols}
use Rattle.code.proofs.Loops.{part-drop}
use Rattle.sheet.specs.Sheet.{sheet_width, sheet_size, is_dated, symbols_of, unused_symbols}
use Rattle.sheet.specs.Call.{sheet_asked, content_asked, write_sheet_asked, read_sheet_asked}

-- ---- writing

module _ (m n : ℕ) (ss : List ℕ) (q : ℕ) (e : q ≡ order_of m) where
  pub write-no-width : q ≡ 0 → Err Width ≡ write_sheet_asked m ss n
  unfolding write_sheet_asked
  write-no-width z = rw (width-no m q e z)

  -- each question on the way was answered yes
  module _ (z : q ≢ 0) where
    width : is_width m ≡ true
    width = width-yes m q e z

    order-of : q ≡ order m
    order-of = order_is m q e width

    pub write-no-word : (n ≡ q + 4 → ⊥) → Err Length ≡ write_sheet_asked m ss n
    unfolding write_sheet_asked
    write-no-word h = simp (width, ne_eqb n (places m) (λ s. h (s ∙ ap (λ (x : ℕ). x + 4) (sym order-of))))

    module _ (h : n ≡ q + 4) where
      word : eqb n (places m) ≡ true
      word = eq-eqb n (places m) (h ∙ ap (λ (x : ℕ). x + 4) order-of)

      pub write-no-length : (length ss ≡ sheet_size → ⊥) → Err Length ≡ write_sheet_asked m ss n
      unfolding write_sheet_asked
      write-no-length s = simp (width, word, ne_eqb (length ss) sheet_size s)

      module _ (s : length ss ≡ sheet_size) (b : Bool) (eb : b ≡ all_below q ss) where
        below : b ≡ all_below (order m) ss
        below = eb ∙ ap (λ (x : ℕ). all_below x ss) order-of

        pub write-no-symbol : not b ≡ true → Err Symbol ≡ write_sheet_asked m ss n
        unfolding write_sheet_asked
        write-no-symbol t = simp (width, word, eq-eqb (length ss) sheet_size s, sym below ∙ not-true b t)

        module _ (t : not b ≡ false) where
          asked-on : write_sheet_asked m ss n ≡ sheet_asked m ss (Ok tt)
          unfolding write_sheet_asked
          asked-on = simp (width, word, eq-eqb (length ss) sheet_size s, sym below ∙ not-false b t)

          pub write-no-sheet : m ≢ sheet_width → Err SheetWidth ≡ write_sheet_asked m ss n
          write-no-sheet x = sym (asked-on ∙ simp (ne_eqb m sheet_width x))

          module _ (x : m ≡ sheet_width) (d : Bool) (ed : d ≡ is_dated ss) where
            pub write-no-date : d ≡ false → Err Date ≡ write_sheet_asked m ss n
            write-no-date f = sym (asked-on ∙ simp (eq-eqb m sheet_width x, sym ed ∙ f))

            pub write-pass : d ≡ true → (Ok tt) ≡ write_sheet_asked m ss n
            write-pass f = sym (asked-on ∙ simp (eq-eqb m sheet_width x, sym ed ∙ f))

-- ---- reading: questions 11, 12 and 13

module _ (m : ℕ) (w : List ℕ) where
  module _ (x : m ≡ sheet_width) (d : Bool) (ed : d ≡ is_dated (symbols_of w)) where
    module _ (t : not d ≡ false) (z : Bool) (ez : z ≡ all_zero (take (length w - (checks + sheet_size)) (drop (checks + sheet_size) w))) where
      zeros : z ≡ all_zero (unused_symbols w)
      zeros = ez ∙ ap all_zero (part-drop (checks + sheet_size) w ∙ sym (drop-drop sheet_size checks w))

      asked-last : (c : Bool) → z ≡ c → ask c Unused (Ok tt) ≡ content_asked m w
      asked-last c f =
          ap (λ (y : Bool). ask y Unused (Ok tt)) (sym f ∙ zeros) ∙ simp (eq-eqb m sheet_width x, sym ed ∙ not-false d t)

      pub content-pass : z ≡ true → (Ok tt) ≡ content_asked m w
      content-pass = asked-last true

      pub content-no-unused : z ≡ false → Err Unused ≡ content_asked m w
      content-no-unused = asked-last false

-- ---- reading: the questions before them

-- a call that was accepted was refused by no question
pub after-accepted : (v : Verdict) (o : Outcome) (x : ℕ) → accepted x ≡ after v o → v ≡ (Ok tt)
after-accepted (Ok tt) o x e = refl
after-accepted (Err q) o x e = let y : ◌≡◌ {A = ℕ} 0 1 = cc in absurd (omega arith)

-- a word that the codeword test judges has the length of the width
pub tested-long : (m : ℕ) (w : List ℕ) (x : ℕ) → accepted x ≡ is_codeword_of m w → length w ≡ places m
tested-long m w x e = test-size m w _ refl (after-accepted (is_codeword_asked m w) _ x e)

module _ (m k : ℕ) (w : List ℕ) where
  pub read-no-width : (q : ℕ) → q ≡ order_of m → q ≡ 0 → refused (refusal Width) ≡ done (read_sheet_asked m w k)
  unfolding read_sheet_asked
  read-no-width q e z = rw (width-no m q e z)

  pub read-no-length : (q : ℕ) → q ≡ order_of m → q ≢ 0 → (k ≡ sheet_size → ⊥) → refused (refusal Length) ≡ done (read_sheet_asked m w k)
  unfolding read_sheet_asked
  read-no-length q e z h = simp (width-yes m q e z, ne_eqb k sheet_size h) (go (eqb (length w) (places m)))
    where
      go : (b : Bool) → refused (refusal Length) ≡ done (ask b Length (Err Length))
      go true = refl
      go false = refl

  -- the codeword test was put to the word
  module _ (h : k ≡ sheet_size) where
    pub read-refused : (q : Question) → refused (refusal q) ≡ is_codeword_of m w → refused (refusal q) ≡ done (read_sheet_asked m w k)
    unfolding is_codeword_asked read_sheet_asked
    read-refused q e = simp (eq-eqb k sheet_size h) (go (is_width m) (eqb (length w) (places m)) (all_below (order m) w) e)
      where
        o : Outcome
        o = accepted (cond (zero_syndromes m w) 1 0)

        next : Verdict
        next = ask (zero_syndromes m w) Syndrome (content_asked m w)

        go : (a b c : Bool) → refused (refusal q) ≡ after (ask a Width (ask b Length (ask c Symbol (Ok tt)))) o
            → refused (refusal q) ≡ done (ask a Width (ask b Length (ask c Symbol next)))
        go false b c p = p
        go true false c p = p
        go true true false p = p
        go true true true p = let y : ◌≡◌ {A = ℕ} 0 1 = cc in absurd (omega arith)

    module _ (x : ℕ) (e : accepted x ≡ is_codeword_of m w) where
      asked-first : ask (zero_syndromes m w) Syndrome (content_asked m w) ≡ read_sheet_asked m w k
      unfolding read_sheet_asked
      asked-first =
          let p = after-accepted (is_codeword_asked m w) _ x e in
          simp (
            test-width m w _ refl p,
            eq-eqb (length w) (places m) (test-size m w _ refl p),
            eq-eqb k sheet_size h,
            test-symbols m w _ refl p,
          )

      tested : accepted x ≡ accepted (cond (zero_syndromes m w) 1 0)
      tested = e ∙ ap (λ (v : Verdict). after v (accepted (cond (zero_syndromes m w) 1 0))) (after-accepted (is_codeword_asked m w) _ x e)

    pub read-other : accepted 0 ≡ is_codeword_of m w → refused (refusal Syndrome) ≡ done (read_sheet_asked m w k)
    read-other e = go (zero_syndromes m w) (tested 0 e) ∙ ap done (asked-first 0 e)
      where
        go : (z : Bool) → accepted 0 ≡ accepted (cond z 1 0) → refused (refusal Syndrome) ≡ done (ask z Syndrome (content_asked m w))
        go true p = let y : ◌≡◌ {A = ℕ} 0 1 = cc in absurd (omega arith)
        go false p = refl

    pub read-content : accepted 1 ≡ is_codeword_of m w → (u : Verdict) → u ≡ content_asked m w → done u ≡ done (read_sheet_asked m w k)
    read-content e u f = ap done (f ∙ go (zero_syndromes m w) (tested 1 e) ∙ asked-first 1 e)
      where
        go : (z : Bool) → accepted 1 ≡ accepted (cond z 1 0) → content_asked m w ≡ ask z Syndrome (content_asked m w)
        go true p = refl
        go false p = let y : ◌≡◌ {A = ℕ} 0 1 = cc in absurd (omega arith)
