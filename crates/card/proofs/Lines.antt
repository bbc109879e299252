-- Listing slot by slot, and a listing in parts: the lines and the progress of two parts are those of the first and then those of the
-- second. Assumes nothing.
use Rattle.field.proofs.Base.{lt-ltb, le-ltb, ◌≡◌, refl, sym, ap, ap₂, ◌∙◌, subst, Bool, cond, List, [], ◌++◌, append_assoc, append-nil, ℕ, ◌+◌, ◌*◌}
use Rattle.field.proofs.Base.{◌≤◌, ◌<◌, arith, length, length-append, length-take, length-drop, take_all, take_at}
use Rattle.card.specs.declared.Progress.{Progress}
use Rattle.card.specs.Record.{erasure_bytes, record_size}
use Rattle.card.specs.Slots.{record_count, record_at, over_first, over_slots}
use Rattle.card.specs.Listing.{slot_line, slot_further}
use Rattle.card.specs.Listing.{Told, slot_told, untold, part_lines, part_progress, total_line, more_line, most_records, start, listing}
use Rattle.card.specs.Text.{Written, Appends}
use Rattle.card.proofs.Slots.{slot-front, slot-behind}
use Rattle.card.proofs.Folding.{over-more, over-map, in_parts}
use Rattle.card.proofs.Writing.{appends-on}

-- ---- listing slot by slot

-- a slot of a batch has a byte
pub piece-some : (batch bytes : List ℕ) (i : ℕ) → bytes ≡ record_at batch i → i < record_count (length batch) → 0 < length bytes
piece-some batch bytes i e h = rw e (simp (length-take, length-drop) (omega arith))

-- with a slot more
lists-on : (t : Told) (slot : List ℕ) {u next : Progress} {a b c : Written} → Appends a t.text b → u ≡ t.progress
    → Appends b (slot_line u.next slot) c → next ≡ slot_further u slot
    → Appends a (slot_told t slot).text c × (next ≡ (slot_told t slot).progress)
lists-on t slot w p v q = (rw (← p) (appends-on w v), q ∙ ap (λ (u : Progress). slot_further u slot) p)

-- the first i slots of a batch
module _ (s : Progress) (batch : List ℕ) where
  abbrev pub told_first : ℕ → Told
  told_first i = over_first erasure_bytes slot_told (untold s) batch i

  pub lists-more : (i : ℕ) (slot : List ℕ) → slot ≡ record_at batch i → {u next : Progress} {a b c : Written}
      → Appends a (told_first i).text b × (u ≡ (told_first i).progress)
      → Appends b (slot_line u.next slot) c → next ≡ slot_further u slot
      → Appends a (told_first (i + 1)).text c × (next ≡ (told_first (i + 1)).progress)
  lists-more i slot e {u} {next} {a} {b} {c} w v q =
      subst (λ (t : Told). Appends a t.text c × (next ≡ t.progress))
      (ap (slot_told (told_first i)) e ∙ over-more erasure_bytes slot_told (untold s) batch i) (lists-on (told_first i) slot w.0 w.1 v q)

  -- how far it has come
  pub told-progress : (i : ℕ) → (over_first erasure_bytes slot_told (untold s) batch i).progress ≡ over_first erasure_bytes slot_further s batch i
  told-progress i = over-map erasure_bytes slot_told slot_further (λ (t : Told). t.progress) (λ t slot. refl) (untold s) batch i

-- ---- two parts, the first of j whole slots

module _ (a b : List ℕ) where
  pub record-front : (i j : ℕ) → i < j → j * record_size ≤ length a → record_at (a ++ b) i ≡ record_at a i
  record-front = slot-front erasure_bytes a b

  pub record-behind : (i j : ℕ) → length a ≡ j * record_size → record_at (a ++ b) (j + i) ≡ record_at b i
  record-behind = slot-behind erasure_bytes a b

-- text that stands before the lines of a part
told-front : (t : Told) (part : List ℕ) → (over_slots slot_told t part).text ≡ t.text ++ part_lines t.progress part
told-front t part =
    ap (λ (u : Told). u.text)
    (sym (over-map erasure_bytes slot_told slot_told before (λ u slot. ap (told (slot_further u.progress slot)) (sym (append_assoc t.text u.text _)))
    (untold t.progress) part (record_count (length part))
    ∙ ap (λ (xs : List ℕ). over_slots slot_told (told t.progress xs) part) (append-nil t.text)))
  where
    told : Progress → List ℕ → Told
    told = λ s xs. record { text = xs; progress = s }

    before : Told → Told
    before = λ u. told u.progress (t.text ++ u.text)

-- The listing of two parts is that of the first, and behind it that of the second from where the first has come to.
pub listing-batches : (a b : List ℕ) (j : ℕ) → length a ≡ j * record_size → (s : Progress)
    → (part_lines s (a ++ b) ≡ part_lines s a ++ part_lines (part_progress s a) b)
    × (part_progress s (a ++ b) ≡ part_progress (part_progress s a) b)
listing-batches a b j whole s = (
  ap (λ (t : Told). t.text) (in_parts slot_told a b j whole (untold s))
      ∙ told-front (over_slots slot_told (untold s) a) b
      ∙ ap (λ (u : Progress). part_lines s a ++ part_lines u b) (told-progress s a (record_count (length a))),
  in_parts slot_further a b j whole s,
)

-- ---- the whole listing

-- the text for a card of which this part is listed, and that goes on or does not
abbrev whole-text : List ℕ → Bool → List ℕ
whole-text part more = part_lines start part ++ (cond more more_line [] ++ total_line (part_progress start part).totals)

-- of a card that is listed to its end
pub listing-short : (card : List ℕ) → length card ≤ most_records * record_size
    → listing card ≡ part_lines start card ++ total_line (part_progress start card).totals
unfolding listing
listing-short card h =
    let most = most_records * record_size in
    ap₂ whole-text (take_all most card h) (le-ltb most (length card) h)

-- of a card that goes on with b behind the part a, which is listed
pub listing-long : (a b : List ℕ) → length a ≡ most_records * record_size → 0 < length b
    → listing (a ++ b) ≡ part_lines start a ++ (more_line ++ total_line (part_progress start a).totals)
unfolding listing
listing-long a b whole some =
    let more : most_records * record_size < length (a ++ b) = simp length-append (omega arith) in
    ap₂ whole-text (take_at a b (most_records * record_size) whole) (lt-ltb (most_records * record_size) (length (a ++ b)) more)
