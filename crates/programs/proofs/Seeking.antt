-- A slot sought batch by batch, and the number of a record in an argument. Assumes nothing.
use Rattle.field.proofs.Base.{◌≡◌, refl, sym, ap, ◌∙◌, subst, Bool, true, false, cond, ◌&&◌, List, [], ◌++◌, ◌⊎◌, inl, inr, ℕ, zero, suc, ◌+◌, ◌-◌}
use Rattle.field.proofs.Base.{◌*◌, ◌≤◌, ◌<◌, add-one, arith, le-leb, lt-leb, length, take, drop, get_or, length-append, length-take, length-drop}
use Rattle.field.proofs.Base.{drop_of_length-le, length-take-le, drop-cons, false≢true}
use Rattle.std.specs.Prelude.{Option, None, Some, IfSome, is_some}
use Rattle.std.specs.Char.{is_ascii_digit}
use Rattle.card.specs.Record.{erasure_bytes, record_size}
use Rattle.card.specs.Slots.{record_count, record_at}
use Rattle.card.specs.Card.{record_numbered}
use Rattle.card.specs.Batch.{batch_records, batch_size}
use Rattle.card.proofs.Slots.{slot-behind}
use Rattle.card_csv.specs.Reading.{is_digit}
use Rattle.programs.specs.declared.input.Input.{Input}
use Rattle.programs.specs.declared.seek.Sought.{Sought}
use Rattle.programs.specs.Stream.{Reads, has_ended}
use Rattle.programs.specs.Seek.{most_before, takes_digit, number_from, from_one, number_in, FindsSlot}
use Rattle.programs.specs.inner.Seeks.{kept, SeeksBatch, SeeksSlot}

-- ---- slots

-- a card has no slot behind its last
pub slot-none : (card : List ℕ) (k : ℕ) → record_count (length card) ≤ k → [] ≡ record_at card k
slot-none card k h = sym (ap (take record_size) (drop_of_length-le card {i = k * record_size} (omega arith)))

-- and each before that has a byte
slot-some : (card : List ℕ) (k : ℕ) → length (record_at card k) ≡ 0 → length card ≤ k * record_size
slot-some card k e = omega (arith, simp (length-take, length-drop) at e)

-- a slot of a full batch is whole
slot-full : (bytes : List ℕ) (k : ℕ) → length bytes ≡ batch_size → 0 < length (record_at bytes k) → length (record_at bytes k) ≡ record_size
slot-full bytes k e h = let some = simp (length-take, length-drop) at h in simp (length-take, length-drop) (omega arith)

pub slot-short : (card : List ℕ) (k : ℕ) → length (record_at card k) ≤ record_size
slot-short card k = simp length-take (omega arith)

-- ---- from batch to batch

-- a batch was read, and its slot k kept
pub seeks-batch : (k : ℕ) (i j : Input) {old new row : List ℕ} {n : ℕ} {len : Option ℕ} → Reads i old j new → length old ≡ batch_size → n ≡ j.count
    → kept len row ≡ record_at (take n new) k → IfSome len (λ m. m ≤ length row) → SeeksBatch k i (record { len = len; input = j }) row
seeks-batch k i j {old} {new} {row} {n} {len} R size e s h =
    let long : length (take n new) ≡ n = length-take-le n new (omega (arith, R.most, e)) in
    record {
      bytes = take n new;
      slot = s;
      room = h;
      read = omega (arith, R.total, long, e);
      full = λ g. omega (arith, long, e, R.full g, R.size, size);
      well = R.well;
    }

not-found : (o : Option ℕ) → false ≡ is_some o → o ≡ None
not-found None e = refl
not-found (Some n) e = absurd (false≢true e)

-- i whole batches were read, and slot k comes behind them
pub record Passed (k i : ℕ) (j : Input) : Type 0 where
  pub card : List ℕ
  pub read : j.read ≡ length card
  pub size : length card ≡ i * batch_size
  pub going : j.going ≡ true
  pub well : j.failed ≡ false
  pub before : i * batch_records ≤ k

module _ (k i : ℕ) (j : Input) (P : Passed k i j) where
  module _ {r : Sought} {row : List ℕ} (B : SeeksBatch (k - i * batch_records) j r row) where
    both : record_at (P.card ++ B.bytes) k ≡ record_at B.bytes (k - i * batch_records)
    both =
        let place : k ≡ i * batch_records + (k - i * batch_records) = omega (arith, P.before) in
        ap (record_at (P.card ++ B.bytes)) place
        ∙ slot-behind erasure_bytes P.card B.bytes (k - i * batch_records) (i * batch_records) (omega (arith, P.size))

    pub seeks-some : SeeksSlot k r row
    seeks-some =
        record {
          card = P.card ++ B.bytes;
          slot = B.slot ∙ sym both;
          room = B.room;
          read = omega (arith, B.read, P.read, length-append P.card B.bytes);
          whole = λ h f. go r.input.going refl h f;
        }
      where
        go : (g : Bool) → r.input.going ≡ g → 0 < length (record_at (P.card ++ B.bytes) k) → r.input.failed ≡ false
            → (length (record_at (P.card ++ B.bytes) k) ≡ record_size) ⊎ (has_ended r.input ≡ true)
        go true g h f =
            inl (ap length both ∙ slot-full B.bytes (k - i * batch_records) (B.full g) (omega (arith, ap length both, h)))
        go false g h f = inr (rw (g, f))

    pub passed-more : false ≡ is_some r.len → r.input.going ≡ true → Passed k (i + 1) r.input
    passed-more z g =
        let none : length (record_at B.bytes (k - i * batch_records)) ≡ 0 = sym (ap length (ap (λ (n : Option ℕ). kept n row) (sym (not-found r.len z)) ∙ B.slot)) in
        let far = slot-some B.bytes (k - i * batch_records) none in
        record {
          card = P.card ++ B.bytes;
          read = omega (arith, B.read, P.read, length-append P.card B.bytes);
          size = omega (arith, P.size, B.full g, length-append P.card B.bytes);
          going = g;
          well = B.well g;
          before = omega (arith, far, B.full g, P.before);
        }

-- ---- the slot that was sought

module _ (n : ℕ) {s : Sought} {row : List ℕ} (S : SeeksSlot (n - 1) s row) (slot : List ℕ) (e : slot ≡ kept s.len row) where
  pub is-slot : slot ≡ record_numbered S.card n
  is-slot = e ∙ S.slot

  pub slot-size : length slot ≤ record_size
  slot-size = omega (arith, ap length is-slot, slot-short S.card (n - 1))

  pub finds-slot : s.input.failed ≡ false → (length slot ≡ 0 → ⊥) → FindsSlot n s.input slot
  finds-slot f h =
      let some : 0 < length slot = omega arith in
      record {
        card = S.card;
        read = S.read;
        well = f;
        is = is-slot;
        some = some;
        whole = subst (λ (l : List ℕ). (length l ≡ record_size) ⊎ (has_ended s.input ≡ true)) (sym is-slot)
            (S.whole (subst (λ (l : List ℕ). 0 < length l) is-slot some) f);
      }

-- ---- the number of a record

-- may a byte stand behind the number v?
module _ (v b : ℕ) where
  pub no-digit : false ≡ is_ascii_digit b → takes_digit v b ≡ false
  unfolding is_digit
  no-digit e = rw (sym e)

  pub too_many : most_before < v → takes_digit v b ≡ false
  too_many h = rw (lt-leb v most_before h) (no (is_digit b))
    where
      no : (t : Bool) → (t && false) ≡ false
      no true = refl
      no false = refl

  pub one_more : true ≡ is_ascii_digit b → v ≤ most_before → takes_digit v b ≡ true
  unfolding is_digit
  one_more e h = rw (sym e, le-leb v most_before h)

module _ (text : List ℕ) (v i : ℕ) (E : number_from v (drop i text) ≡ number_from 0 text) where
  pub number-all : length text ≤ i → from_one (Some v) ≡ number_in text
  unfolding number_from
  number-all h = ap from_one (sym (ap (number_from v) (drop_of_length-le text {i = i} h)) ∙ E)

  module _ (h : i < length text) where
    step : cond (takes_digit v (get_or text i 0)) (number_from (v * 10 + (get_or text i 0 - 48)) (drop (i + 1) text)) None ≡ number_from 0 text
    unfolding number_from
    step = rw (add-one i) (sym (ap (number_from v) (drop-cons text i 0 h)) ∙ E)

    pub number_refused : takes_digit v (get_or text i 0) ≡ false → None ≡ number_in text
    number_refused e =
        ap from_one (sym (ap (λ (b : Bool). cond b (number_from (v * 10 + (get_or text i 0 - 48)) (drop (i + 1) text)) None) e) ∙ step)

    pub number-on : takes_digit v (get_or text i 0) ≡ true
        → number_from (v * 10 + (get_or text i 0 - 48)) (drop (i + 1) text) ≡ number_from 0 text
    number-on e = sym (ap (λ (b : Bool). cond b (number_from (v * 10 + (get_or text i 0 - 48)) (drop (i + 1) text)) None) e) ∙ step

pub counted_some : (v : ℕ) → 0 < v → Some v ≡ from_one (Some v)
counted_some zero h = absurd (omega arith)
counted_some (suc v) h = refl

pub counted_none : (v : ℕ) → v ≤ 0 → None ≡ from_one (Some v)
counted_none zero h = refl
counted_none (suc v) h = absurd (omega arith)
