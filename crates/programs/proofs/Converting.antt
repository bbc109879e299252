-- A card asked, and converted, batch by batch. Assumes nothing.
use Rattle.std.proofs.Common.{Ok, Err, Result, is_err, refl}
use Rattle.std.specs.Result.{IfOk}
use Rattle.field.specs.Question.{Verdict}
use Rattle.field.proofs.Base.{◌≡◌, sym, ap, ◌∙◌, subst, Bool, true, false, List, [], ◌++◌, ⊎_elim, ℕ, ◌+◌, ◌-◌, ◌*◌, ◌%◌, ◌^◌, ◌≤◌, ◌<◌, zero-mul}
use Rattle.field.proofs.Base.{arith, length, take, length-append, length-take-le}
use native.Mathlib.Nat.{zero-div, eq-or-lt_of_le, add-mul, mul_assoc, mul_comm, mul-mod_left}
use native.Mathlib.Nat.{mul-le-mul, mul-le-mul_right, div-le_of_le-mul, div-le_self}
use lib.Seq.{take-append-le}
use Rattle.code.specs.Call.{done}
use Rattle.card.specs.declared.parts.Findings.{Findings}
use Rattle.card.specs.Record.{size_of, erasure_bytes}
use Rattle.card.specs.Slots.{slot_count, over_first}
use Rattle.card.specs.Batch.{batch_records, most_batches}
use Rattle.card.specs.Conversion.{old_erasure_bytes, Converts, converted_card, to_new_asked, to_old_asked}
use Rattle.card.specs.Findings.{nothing_found, slot_found, part_found}
use Rattle.card.proofs.Folding.{over_none, whole_parts, rest-two}
use Rattle.card.proofs.Findings.{found-slots}
use Rattle.programs.specs.declared.input.Input.{Input}
use Rattle.programs.specs.declared.cardconvert.Inquiry.{Inquiry}
use Rattle.programs.specs.declared.cardconvert.Copying.{Copying}
use Rattle.programs.specs.Stream.{has_ended, Reads}
use Rattle.programs.specs.Convert.{other_edition, AsksCard, Converted, CopiesCard}
use Rattle.programs.specs.inner.Turns.{CanRead, TookAll}
use Rattle.programs.specs.inner.Copies.{AsksBatch, Fine, CopiesBatch, CopiesSlots, copy_slots, copy_size}
use Rattle.programs.proofs.Batches.{took-start, took-batch, took_more}

-- ---- the first reading

-- the bytes of a batch
abbrev pub batch : ℕ → ℕ
batch k = batch_records * size_of k

-- n bytes are read into the front of a buffer: a is what it is then, b what stands behind it
module _ (n count : ℕ) (e : n ≡ count) (a b : List ℕ) (h : count ≤ length a) where
  pub read-inside : n ≤ length (a ++ b)
  read-inside = omega (arith, h, e, length-append a b)

  pub read-size : length (take n (a ++ b)) ≡ n
  read-size = length-take-le n (a ++ b) read-inside

  read-part : take n (a ++ b) ≡ take count a
  read-part = take-append-le n a b (omega (arith, e, h)) ∙ ap (λ (x : ℕ). take x a) e

-- size is that of a slot
module _ (k : ℕ) (s u : Findings) {i j : Input} {old new : List ℕ} (behind : List ℕ) (R : Reads i old j new) {size n : ℕ} where
  pub asks-batch : size ≡ size_of k → n ≡ j.count → length old ≡ batch_records * size → u ≡ part_found k s (take n (new ++ behind))
      → AsksBatch k s i (record { findings = u; rest = n % size; input = j })
  asks-batch e h l f =
      let same : part_found k s (take n (new ++ behind)) ≡ part_found k s (take j.count new) =
      ap (part_found k s) (read-part n j.count h new behind R.most) in
      let whole : length old ≡ batch k = l ∙ ap (λ (x : ℕ). batch_records * x) e in
      let long : length (take j.count new) ≡ j.count = length-take-le j.count new R.most in
      record { took = took-batch (part_found k) (batch k) s u i j old new R whole (f ∙ same); left = cc }

-- before the first batch
pub asks-start : (k : ℕ) (s : Findings) (j : Input) → s ≡ nothing_found → j.read ≡ 0 → j.failed ≡ false
    → TookAll (part_found k) (0 * batch k) nothing_found s j
asks-start k s j e r f =
    let none = over_none k (slot_found k) nothing_found [] ∙ ap (over_first k (slot_found k) nothing_found []) (sym (zero-div (size_of k))) in
    took-start (part_found k) (batch k) nothing_found s j r f (e ∙ none)

-- behind i whole batches
module _ (k i : ℕ) {s : Findings} {I : Input} (C : TookAll (part_found k) (i * batch k) nothing_found s I) (g : I.going ≡ true)
    (h : k ≤ erasure_bytes) where
  few : i ≤ most_batches → length C.came.bytes ≤ most_batches * 55600
  few l =
      let most : i * batch k ≤ most_batches * 55600 = mul-le-mul {m₂ = 55600} l (omega arith) in
      omega (arith, most, C.came.most)

  whole : length C.came.bytes ≡ i * batch_records * size_of k
  whole = C.came.full g ∙ sym (mul_assoc i batch_records (size_of k))

  pub asks-readable : i ≤ most_batches → CanRead I
  asks-readable l = record { going = g; well = C.well g; small = omega (arith, few l, C.read) }

  pub asks-slots : i ≤ most_batches → s.slots ≤ 2 ^ 62
  asks-slots l =
      let bytes = C.came.bytes in
      let n = slot_count k (length bytes) in
      let seen : s.slots ≡ 0 + n = ap (λ (u : Findings). u.slots) C.came.content ∙ found-slots k nothing_found bytes n in
      omega (arith, seen, few l, div-le_self (length bytes) (size_of k))

  -- all of them
  pub asks-all : i ≡ most_batches → AsksCard k (record { findings = s; rest = 0; input = I })
  asks-all e =
      record {
        card = C.came.bytes;
        read = omega (arith, C.read);
        findings = C.came.content;
        left = sym (ap (λ (x : ℕ). x % size_of k) whole ∙ mul-mod_left (i * batch_records) (size_of k));
        most = subst (λ (x : ℕ). length C.came.bytes ≤ x * batch k) e C.came.most;
      }

  -- and one more
  module _ {r : Inquiry} (D : AsksBatch k s I r) where
    abbrev parts : (a b : List ℕ) (j : ℕ) → length a ≡ j * size_of k → (t : Findings) → part_found k t (a ++ b) ≡ part_found k (part_found k t a) b
    parts = whole_parts k (slot_found k)

    abbrev pub asks-more : TookAll (part_found k) ((i + 1) * batch k) nothing_found r.findings r.input
    asks-more = took_more (part_found k) (size_of k) parts nothing_found i s I C g r.findings r.input D.took

    -- the last one
    pub asks-end : i < most_batches → AsksCard k r
    asks-end l =
        let M = asks-more in
        let last : (i + 1) * batch k ≤ most_batches * batch k = mul-le-mul_right (batch k) (omega arith) in
        record {
          card = M.came.bytes;
          read = omega (arith, M.read);
          findings = M.came.content;
          left = D.left ∙ sym (rest-two k C.came.bytes D.took.came.bytes (i * batch_records) whole);
          most = omega (arith, last, M.came.most);
        }

-- the slots of a card that was asked are few enough to be counted and copied
module _ {k : ℕ} {r : Inquiry} (A : AsksCard k r) where
  pub asked-slots : r.findings.slots ≤ most_batches * batch_records
  asked-slots =
      let n = slot_count k (length A.card) in
      let seen : r.findings.slots ≡ 0 + n = ap (λ (u : Findings). u.slots) A.findings ∙ found-slots k nothing_found A.card n in
      let same : most_batches * (batch_records * size_of k) ≡ size_of k * (most_batches * batch_records) =
      sym (mul_assoc most_batches batch_records (size_of k)) ∙ mul_comm (most_batches * batch_records) (size_of k) in
      let most : length A.card ≤ size_of k * (most_batches * batch_records) = subst (λ (x : ℕ). length A.card ≤ x) same A.most in
      omega (arith, seen, div-le_of_le-mul (size_of k) most)

-- ---- the second reading

-- so many slots fit into a buffer of n bytes
pub copy-room : (want size k n : ℕ) → want ≤ copy_slots → size ≡ size_of k → k ≤ erasure_bytes → n ≡ copy_size → want * size ≤ n
copy-room want size k n h e l f =
    let room : want * size ≤ 200 * 139 = mul-le-mul {m₂ = 139} h (omega arith) in
    omega (arith, room)

-- what was converted is written
passed_is : (k j : ℕ) (asked : Verdict) (card old : List ℕ) (v : Verdict) (new : List ℕ) → Converts k j asked card old v new → v ≡ (Ok tt)
    → new ≡ converted_card k j card
passed_is k j (Ok tt) card old v new C e = C.output
passed_is k j (Err q) card old v new C e =
    let no : done (Ok tt) ≡ done (Err q) = ap done (sym e) ∙ C.answer in
    let z : ◌≡◌ {A = ℕ} 0 1 = cc in
    absurd (omega arith)

pub not-refused : (v : Verdict) → is_err v ≡ false → v ≡ (Ok tt)
not-refused (Ok tt) e = refl
not-refused (Err q) e = let z : ◌≡◌ {A = Bool} true false = e in let y : ◌≡◌ {A = ℕ} 0 1 = cc in absurd (omega arith)

pub passed-converted : (k : ℕ) (card old : List ℕ) (v : Verdict) (new : List ℕ)
    → (k ≡ old_erasure_bytes → Converts old_erasure_bytes erasure_bytes (to_new_asked card (length old)) card old v new)
    → (k ≡ erasure_bytes → Converts erasure_bytes old_erasure_bytes (to_old_asked card (length old)) card old v new) → v ≡ (Ok tt) → old_erasure_bytes ≤ k
    → k ≤ erasure_bytes → Converted k new
passed-converted k card old v new A B e l h = ⊎_elim (λ f. of-old (sym f)) (λ f. of-new (omega arith)) (eq-or-lt_of_le l)
  where
    of-old : k ≡ old_erasure_bytes → Converted k new
    of-old f = subst (λ (x : ℕ). Converted x new) (sym f) (record { card = card; is = passed_is _ _ _ card old v new (A f) e })

    of-new : k ≡ erasure_bytes → Converted k new
    of-new f = subst (λ (x : ℕ). Converted x new) (sym f) (record { card = card; is = passed_is _ _ _ card old v new (B f) e })

pub copies-sized : {a b n m : ℕ} (c : Copying) (r : Result Copying Copying) → a ≡ n → b ≡ m → IfOk r (CopiesBatch a b c) → IfOk r (CopiesBatch n m c)
copies-sized {b = b} {n = n} c r e f B =
    subst (λ (x : ℕ). IfOk r (CopiesBatch n x c)) f (subst (λ (x : ℕ). IfOk r (CopiesBatch x b c)) e B)

-- so many slots are left
pub record Copied (k slots left : ℕ) (c : Copying) : Type 0 where
  pub going : c.input.going ≡ true
  pub well : c.input.failed ≡ false
  pub ok : c.output.ok ≡ true
  pub read : c.input.read + left * size_of k ≡ slots * size_of k
  pub written : c.output.written + left * size_of (other_edition k) ≡ slots * size_of (other_edition k)

module _ {k slots left : ℕ} {c : Copying} (C : Copied k slots left c) (l : old_erasure_bytes ≤ k) (h : k ≤ erasure_bytes) where
  pub copied-fine : slots ≤ most_batches * batch_records → Fine c
  copied-fine f =
      let a : slots * size_of k ≤ most_batches * batch_records * 139 = mul-le-mul {m₂ = 139} f (omega arith) in
      let b : slots * size_of (other_edition k) ≤ most_batches * batch_records * 139 = mul-le-mul {m₂ = 139} f (omega arith) in
      record {
        going = C.going;
        well = C.well;
        ok = C.ok;
        read_small = omega (arith, a, C.read);
        written_small = omega (arith, b, C.written);
      }

  -- one batch more
  pub copied_more : (want : ℕ) {r : Copying} → CopiesBatch (want * size_of k) (want * size_of (other_edition k)) c r → want ≤ left
      → Copied k slots (left - want) r
  copied_more want {r} B w =
      record {
        going = B.going;
        well = B.well;
        ok = B.ok;
        read = further c.input.read r.input.read (size_of k) B.read C.read;
        written = further c.output.written r.output.written (size_of (other_edition k)) B.written C.written;
      }
    where
      further : (a b size : ℕ) → b ≡ a + want * size → a + left * size ≡ slots * size → b + (left - want) * size ≡ slots * size
      further a b size e f =
          let all : left * size ≡ want * size + (left - want) * size = ap (λ (x : ℕ). x * size) (omega arith) ∙ add-mul want (left - want) size in
          omega (arith, all)

  pub copied_all : left ≡ 0 → CopiesSlots k slots c
  copied_all e =
      let a : left * size_of k ≡ 0 = ap (λ (x : ℕ). x * size_of k) e ∙ zero-mul (size_of k) in
      let b : left * size_of (other_edition k) ≡ 0 = ap (λ (x : ℕ). x * size_of (other_edition k)) e ∙ zero-mul (size_of (other_edition k)) in
      record { going = C.going; well = C.well; ok = C.ok; read = omega (arith, a, C.read); written = omega (arith, b, C.written) }

-- ---- behind the last slot

module _ {k slots : ℕ} {c : Copying} (C : CopiesSlots k slots c) where
  pub copies-readable : slots ≤ most_batches * batch_records → k ≤ erasure_bytes → CanRead c.input
  copies-readable f h =
      let a : slots * size_of k ≤ most_batches * batch_records * 139 = mul-le-mul {m₂ = 139} f (omega arith) in
      record { going = C.going; well = C.well; small = omega (arith, a, C.read) }

  -- and no byte more is read
  pub copies-card : {i : Input} {old new : List ℕ} → Reads c.input old i new → has_ended i ≡ true → i.count ≡ 0
      → CopiesCard k slots (record { input = i; output = c.output })
  copies-card R e z = record { ended = e; read = omega (arith, R.total, z, C.read); ok = C.ok; written = C.written }
