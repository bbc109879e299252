-- A look at a record, and looks between the steps of a walk. Assumes nothing.
use Rattle.std.proofs.Common.{Ok, Err, Result}
use Rattle.std.specs.Result.{result_and, result_unwrap_or}
use Rattle.field.proofs.Base.{eq-eqb, ne_eqb, eqb-true, ◌≡◌, refl, sym, ap, ap₂, ◌∙◌, subst, Bool, true, false, not, List, [], ◌∷◌, ◌++◌, append-nil, ℕ}
use Rattle.field.proofs.Base.{◌+◌, ◌-◌, ◌*◌, ◌≤◌, ◌<◌, dec_lt, arith, eqb, length, take, drop, length-append, length-take, length-drop}
use Rattle.field.proofs.Base.{not-true, not-false, take-append-drop, drop_of_length-le, take_all}
use Rattle.field.specs.Question.{Verdict, Outcome, accepted, refused, refusal, after}
use Rattle.field.specs.declared.Question.{Question}
use Rattle.field.specs.declared.Question.TheVariants.{Length, RecordNumber}
use Rattle.field.proofs.Ask.{ask-yes, ask-next}
use Rattle.code.specs.Call.{done, repair}
use Rattle.card.specs.declared.RestoredCopy.{RestoredCopy}
use Rattle.card.specs.inner.Parts.{header_size}
use Rattle.card.specs.Record.{record_size, word_of, record_of, on_accept, record_written, copy_changes, copy_bytes, RestoresCopy}
use Rattle.card.specs.Slots.{record_count, record_at}
use Rattle.card.specs.Card.{is_number, record_numbered}
use Rattle.card.proofs.Recording.{copy-accepted}
use Rattle.card.proofs.Again.{refused-stays, accepted-whole, restored-again, restored-symbols, written-size, written-again}
use Rattle.walk.specs.declared.Walk.{Walk}
use Rattle.walk.specs.Restored.{restored_card, slots_from, restored_from}
use Rattle.walk.specs.Walk.{step_asked, step_count, step_written, after_steps, after_states}
use Rattle.walk.specs.Look.{look_size, in_row, look_symbols, uncounted, look_asked, look_of, look_written, Looks, no_symbols, LooksAt}
use Rattle.walk.specs.inner.Parts.{ShowsRecord}
use Rattle.walk.specs.Demands.{Tells, LookBetween, LookAmong}
use Rattle.card.proofs.Lines.{record-front, record-behind}
use Rattle.card.proofs.Numbering.{number-yes, number-low, number-high}
use Rattle.walk.proofs.Restoring.{each-alone, from-none}
use Rattle.walk.proofs.Walking.{going-low, card-by, reached, at-moment}

-- ---- at one record

module _ (r row : List ℕ) where
  -- the record was restored in a copy
  module _ (x : Result RestoredCopy Question) (R : RestoresCopy r x) where
    -- the row is the last part of the restored copy
    pub shows-yes : (copy : RestoredCopy) → x ≡ Ok copy
        → (row' : List ℕ) → row' ≡ take (record_size - header_size) (drop header_size copy.bytes) → ShowsRecord r row (Ok tt) row'
    shows-yes copy p row' e =
        let k = copy.changed in
        let o : accepted k ≡ record_of r = ap (λ (y : Result RestoredCopy Question). repair (copy_changes y)) (sym p) ∙ R.answer in
        let whole : length r ≡ record_size = accepted-whole r k (sym o) in
        let written : copy.bytes ≡ record_written r = ap copy_bytes (sym p) ∙ R.content ∙ sym (copy-accepted r k o) in
        let size : length copy.bytes ≡ record_size = ap length written ∙ written-size r ∙ whole in
        record {
          answer = ap uncounted o;
          symbols = e
              ∙ take_all (record_size - header_size) (drop header_size copy.bytes) (simp length-drop (omega (arith, size)))
              ∙ ap (drop header_size) written
              ∙ restored-symbols r k (sym o)
              ∙ ap (λ (y : Outcome). on_accept y row (look_symbols r)) o;
        }

-- a second look, at the restored record
pub uncounted-again : (r : List ℕ) → uncounted (record_of (record_written r)) ≡ uncounted (record_of r)
uncounted-again r = go (record_of r) refl
  where
    go : (o : Outcome) → record_of r ≡ o → uncounted (record_of (record_written r)) ≡ uncounted (record_of r)
    go (accepted k) e = ap uncounted (restored-again r k e).0 ∙ sym (ap uncounted e)
    go (refused n) e = ap (λ (x : List ℕ). uncounted (record_of x)) (refused-stays r n e)

-- ---- at the record of a number

-- b is whether the number is one of r, and m the length of the row
module _ (n number m r : ℕ) (er : r ≡ record_count n) (b : Bool) (eb : b ≡ is_number r number) where
  same : b ≡ is_number (record_count n) number
  same = eb ∙ ap (λ (k : ℕ). is_number k number) er

  pub asked-number : not b ≡ true → Err RecordNumber ≡ look_asked n number m
  unfolding look_asked
  asked-number t = simp (sym same ∙ not-true b t)

  pub asked-row : not b ≡ false → (m ≡ look_size → ⊥) → Err Length ≡ look_asked n number m
  unfolding look_asked
  asked-row t e = simp (sym same ∙ not-false b t, ne_eqb m look_size e)

  pub asked-passed : not b ≡ false → m ≡ look_size → (Ok tt) ≡ look_asked n number m
  unfolding look_asked
  asked-passed t e = simp (sym same ∙ not-false b t, eq-eqb m look_size e)

-- what the questions tell where they were answered yes
module _ (n number m : ℕ) (v : Verdict) (e : v ≡ look_asked n number m) (p : v ≡ (Ok tt)) where
  in-range : is_number (record_count n) number ≡ true
  unfolding look_asked
  in-range = ask-yes (is_number (record_count n) number) RecordNumber _ (sym e ∙ p)

  pub looked-low : 1 ≤ number
  looked-low = number-low (record_count n) number in-range

  pub looked-at : (number - 1) * record_size < n
  looked-at = omega (arith, looked-low, number-high (record_count n) number in-range)

  pub looked-row : m ≡ look_size
  unfolding look_asked
  looked-row =
      eqb-true m look_size
      (ask-yes (eqb m look_size) Length (Ok tt) (ask-next (is_number (record_count n) number) RecordNumber _ (sym e ∙ p)))

-- a count that is left out changes nothing in what is written
uncounted-accept : (o : Outcome) (old new : List ℕ) → on_accept (uncounted o) old new ≡ on_accept o old new
uncounted-accept (accepted k) old new = refl
uncounted-accept (refused n) old new = refl

module _ (card : List ℕ) (number : ℕ) (row : List ℕ) (v : Verdict) (e : v ≡ look_asked (length card) number (length row)) where
  answer-by : after v (uncounted (record_of (record_numbered card number))) ≡ look_of card number row
  unfolding look_of
  answer-by = ap (λ (u : Verdict). after u (uncounted (record_of (record_numbered card number)))) e

  written-by : on_accept (after v (uncounted (record_of (record_numbered card number)))) row (look_symbols (record_numbered card number))
      ≡ look_written card number row
  unfolding look_written
  written-by = ap (λ (o : Outcome). on_accept o row (look_symbols (record_numbered card number))) answer-by

pub looks-refused : (card : List ℕ) (number : ℕ) (row : List ℕ) (v : Verdict) (q : Question)
    → v ≡ look_asked (length card) number (length row) → v ≡ Err q → (r : Verdict) → r ≡ Err q → Looks card number row r row
looks-refused card number row v q e p r g =
    let a = sym p ∙ e in
    record { answer = ap done g ∙ answer-by card number row (Err q) a; symbols = written-by card number row (Err q) a }

pub looks-shown : (card : List ℕ) (number : ℕ) (row : List ℕ) (v : Verdict)
    → v ≡ look_asked (length card) number (length row) → v ≡ (Ok tt) → (bytes : List ℕ) → bytes ≡ record_numbered card number
    → (x : Verdict) (new : List ℕ) → ShowsRecord bytes row x new → Looks card number row x new
looks-shown card number row v e p bytes eb x new S =
    let a = sym p ∙ e in
    record {
      answer = S.answer ∙ ap (λ (r : List ℕ). uncounted (record_of r)) eb ∙ answer-by card number row (Ok tt) a;
      symbols = S.symbols
          ∙ ap (λ (r : List ℕ). on_accept (record_of r) row (look_symbols r)) eb
          ∙ sym (uncounted-accept (record_of (record_numbered card number)) row (look_symbols (record_numbered card number)))
          ∙ written-by card number row (Ok tt) a;
    }

-- the row by value, where v is the verdict of the look into a row of zeros
module _ (card : List ℕ) (number : ℕ) (v : Verdict) (new : List ℕ) (L : Looks card number no_symbols v new) where
  pub by-value-refused : (q : Question) → v ≡ Err q → (r : Result (List ℕ) Question) → r ≡ Err q → LooksAt card number r
  unfolding look_written
  by-value-refused q p r g =
      let o : refused (refusal q) ≡ look_of card number no_symbols = ap done (sym p) ∙ L.answer in
      record {
        answer = ap (λ (x : Result (List ℕ) Question). done (result_and x (Ok tt))) g ∙ o;
        symbols = ap (λ (x : Result (List ℕ) Question). result_unwrap_or x no_symbols) g
            ∙ ap (λ (u : Outcome). on_accept u no_symbols (look_symbols (record_numbered card number))) o;
      }

-- ---- looks between steps

-- a look at record i shows the same, whether it is among the k records restored or not
pub record SameShown (old new : List ℕ) : Type 0 where
  pub answer : uncounted (record_of new) ≡ uncounted (record_of old)
  pub symbols : look_symbols new ≡ look_symbols old

restored-shown : (r : List ℕ) → SameShown r (record_written r)
restored-shown r = record { answer = uncounted-again r; symbols = ap (λ (w : List ℕ). in_row (word_of w)) (written-again r) }

-- cards of one length, each record of which shows the same
record Shown (old new : List ℕ) : Type 0 where
  size : length new ≡ length old
  each : (i : ℕ) → i * record_size < length old → SameShown (record_at old i) (record_at new i)

shown-same : (card : List ℕ) → Shown card card
shown-same card = record { size = refl; each = λ i h. record { answer = refl; symbols = refl } }

shown-restored : (card : List ℕ) → Shown card (restored_card card)
shown-restored card =
    record {
      size = (each-alone card).size;
      each = λ i h. rw ((each-alone card).each i (omega arith)) (restored-shown (record_at card i));
    }

-- one part behind another, the first of j whole slots
shown-both : (a b c d : List ℕ) (j : ℕ) → length a ≡ j * record_size → Shown a c → Shown b d → Shown (a ++ b) (c ++ d)
shown-both a b c d j whole A B =
    record {
      size = length-append c d ∙ omega (arith, A.size, B.size, length-append a b);
      each = λ i h. go i h (dec_lt i j);
    }
  where
    go : (i : ℕ) → i * record_size < length (a ++ b) → Dec (i < j) → SameShown (record_at (a ++ b) i) (record_at (c ++ d) i)
    go i h (yes l) =
        rw (record-front a b i j l (omega (arith, whole)), record-front c d i j l (omega (arith, whole, A.size)))
        (A.each i (omega (arith, whole)))
    go i h (no n) =
        let at : i ≡ j + (i - j) = omega arith in
        subst (λ (x : ℕ). SameShown (record_at (a ++ b) x) (record_at (c ++ d) x)) (sym at)
        (rw (record-behind a b (i - j) j whole, record-behind c d (i - j) j (A.size ∙ whole))
        (B.each (i - j) (omega (arith, whole, length-append a b))))

-- k slots behind the first f are restored
from-shown : (f k : ℕ) (card : List ℕ) → f * record_size ≤ length card → Shown card (restored_from f k card)
from-shown f k card h =
    subst (λ (x : List ℕ). Shown x (restored_from f k card)) (take-append-drop (f * record_size) card)
    (shown-both (take (f * record_size) card) behind (take (f * record_size) card) _ f (length-take (f * record_size) card ∙ omega arith)
    (shown-same (take (f * record_size) card))
    (subst (λ (x : List ℕ). Shown x (restored_card (slots_from f k card) ++ rest)) (take-append-drop (k * record_size) behind)
    (go (dec_lt (length (slots_from f k card)) (k * record_size)))))
  where
    behind : List ℕ
    behind = drop (f * record_size) card

    rest : List ℕ
    rest = drop (k * record_size) (drop (f * record_size) card)

    -- the last of them may be shorter, and nothing stands behind it
    none : length (slots_from f k card) < k * record_size → rest ≡ []
    none l = drop_of_length-le behind {i = k * record_size} (omega (arith, length-take (k * record_size) behind))

    go : Dec (length (slots_from f k card) < k * record_size) → Shown (slots_from f k card ++ rest) (restored_card (slots_from f k card) ++ rest)
    go (yes l) = rw (none l, append-nil, append-nil) (shown-restored (slots_from f k card))
    go (no n) =
        shown-both (slots_from f k card) rest (restored_card (slots_from f k card)) rest k
        (omega (arith, length-take (k * record_size) behind)) (shown-restored (slots_from f k card)) (shown-same rest)

-- a look at any number, range or not, gives the same on both cards
pub record SameLook (old new : List ℕ) (number : ℕ) (row : List ℕ) : Type 0 where
  pub answer : look_of new number row ≡ look_of old number row
  pub symbols : look_written new number row ≡ look_written old number row

module _ (card new : List ℕ) (S : Shown card new) (number : ℕ) (row : List ℕ) where
  same-look : SameLook card new number row
  same-look = go (look_asked (length card) number (length row)) refl
    where
      same_asked : look_asked (length card) number (length row) ≡ look_asked (length new) number (length row)
      same_asked = ap (λ (n : ℕ). look_asked n number (length row)) (sym S.size)

      go : (v : Verdict) → v ≡ look_asked (length card) number (length row) → SameLook card new number row
      go (Err q) e =
          record {
            answer = sym (answer-by new number row (Err q) (e ∙ same_asked)) ∙ answer-by card number row (Err q) e;
            symbols = sym (written-by new number row (Err q) (e ∙ same_asked)) ∙ written-by card number row (Err q) e;
          }
      go (Ok tt) e =
          let s = S.each (number - 1) (looked-at (length card) number (length row) (Ok tt) e refl) in
          record {
            answer = sym (answer-by new number row (Ok tt) (e ∙ same_asked)) ∙ s.answer ∙ answer-by card number row (Ok tt) e;
            symbols = sym (written-by new number row (Ok tt) (e ∙ same_asked))
                ∙ ap₂ (λ (o : Outcome) (x : List ℕ). on_accept o row x) s.answer s.symbols
                ∙ written-by card number row (Ok tt) e;
          }

pub look-same : (card : List ℕ) (k number : ℕ) (row : List ℕ) → SameLook card (after_steps k card).card number row
look-same card k number row =
    rw (at-moment k card) (same-look card (restored_from 0 (reached k card) card) (from-shown 0 (reached k card) card (omega arith)) number row)

-- after one step in any state
step-look : (w : Walk) (card : List ℕ) (number : ℕ) (row : List ℕ) → SameLook card (step_written w card) number row
step-look w card number row = go (step_asked w (length card)) refl
  where
    unchanged : SameLook card card number row
    unchanged = record { answer = refl; symbols = refl }

    f : ℕ
    f = w.next - 1

    count : ℕ
    count = step_count w (length card)

    treated : 1 ≤ w.next → Dec (f < record_count (length card)) → SameLook card (restored_from f count card) number row
    treated l (yes h) =
        same-look card (restored_from f count card) (from-shown f count card (omega arith)) number row
    treated l (no n) =
        let none : count ≡ 0 = omega arith in
        rw (none, from-none record_written f card) unchanged

    go : (v : Verdict) → v ≡ step_asked w (length card) → SameLook card (step_written w card) number row
    go (Err q) e = rw (← card-by w card (Err q) e) unchanged
    go (Ok tt) e =
        rw (← card-by w card (Ok tt) e)
        (treated (going-low w (length card) (Ok tt) e refl) (dec_lt f (record_count (length card))))

-- after steps in any states
among_same : (ws : List Walk) (card : List ℕ) (number : ℕ) (row : List ℕ) → SameLook card (after_states ws card) number row
unfolding after_states
among_same [] card number row = record { answer = refl; symbols = refl }
among_same (w ∷ ws) card number row =
    let first = step-look w card number row in
    let others = among_same ws (step_written w card) number row in
    record { answer = others.answer ∙ first.answer; symbols = others.symbols ∙ first.symbols }

-- a look at record i of a card that shows the same
look-tells : (card now : List ℕ) (i : ℕ) (row : List ℕ) → i < record_count (length card) → length row ≡ look_size
    → SameLook card now (i + 1) row → Tells card now i row
look-tells card now i row h s same =
    let r = record_at card i in
    let back : i + 1 - 1 ≡ i = omega arith in
    let yes = number-yes (record_count (length card)) (i + 1) (omega arith) (omega arith) in
    let passed = asked-passed (length card) (i + 1) (length row) (record_count (length card)) refl true (sym yes) refl s in
    let answer : look_of now (i + 1) row ≡ uncounted (record_of r) =
    same.answer ∙ sym (answer-by card (i + 1) row (Ok tt) passed) ∙ ap (λ (j : ℕ). uncounted (record_of (record_at card j))) back in
    let symbols : look_written now (i + 1) row ≡ on_accept (uncounted (record_of r)) row (look_symbols r) =
    same.symbols
    ∙ sym (written-by card (i + 1) row (Ok tt) passed)
    ∙ ap (λ (j : ℕ). on_accept (uncounted (record_of (record_at card j))) row (look_symbols (record_at card j))) back in
    record {
      symbols = λ k e. (answer ∙ ap uncounted e, symbols ∙ ap (λ (o : Outcome). on_accept (uncounted o) row (look_symbols r)) e);
      refusal = λ n e. (answer ∙ ap uncounted e, symbols ∙ ap (λ (o : Outcome). on_accept (uncounted o) row (look_symbols r)) e);
    }

pub look-between : LookBetween
look-between card k i row h s = look-tells card (after_steps k card).card i row h s (look-same card k (i + 1) row)

pub look-among : LookAmong
look-among card ws i row h s = look-tells card (after_states ws card) i row h s (among_same ws card (i + 1) row)
