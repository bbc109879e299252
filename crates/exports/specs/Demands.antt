-- What is asked of the calls for C, as statements about the numbers that they return and the memory that they leave; proofs/Demands.antt
-- proves each under its name in small letters. Assumes nothing.
use Rattle.std.specs.Prelude.{Option, ◌≡◌, ◌↔◌, ◌≢◌, cond, List, [], ◌∷◌, ℕ, zero, suc, ◌+◌, ◌*◌, ◌/◌, ◌%◌, ◌<◌, eqb, length, take, drop}
use Rattle.field.specs.Question.{Outcome, accepted, refused}
use Rattle.field.specs.Answer.{sum_of, product_of, power_of, inverse_of}
use Rattle.code.specs.Word.{five}
use Rattle.code.specs.Near.{radius, Near}
use Rattle.code.specs.Demands.{Passes, Nearest}
use Rattle.code.specs.Call.{encode_of, is_codeword_of, read_data_of, syndromes_of, syndromes_given, within_of, restore_of, restore_written}
use Rattle.card.specs.Record.{width_of, word_of, erasures_of, reach_of, record_of, record_written, record_within_of}
use Rattle.card.specs.Demands.{RecordPasses, HoldsWord}
use Rattle.card.specs.Card.{Check, no_bad, bad, first_refused}
use Rattle.card.specs.Conversion.{to_new_of, to_old_of}
use Rattle.sheet.specs.Call.{write_sheet_of, read_sheet_of}
use Rattle.walk.specs.Walk.{step_of}
use Rattle.walk.specs.Look.{look_of}
use Rattle.walk.specs.declared.Walk.{Walk}
use Rattle.dock.specs.Dock.{bays, own_charge, Call, answer_of, content_of}
use Rattle.dock.specs.Run.{Entry, used, used_by, own_sum, left_after, history}
use Rattle.dock.specs.Dock.{charged}
use Rattle.report.specs.Compare.{compare_of, compare_part, into_of, into_total}
use Rattle.report.specs.Window.{window_of}
use Rattle.report.specs.declared.row.Window.{Window}
use Rattle.exports.specs.Packed.{packed, packed_bytes, packed_totals, checked}
use Rattle.exports.specs.Part.{part_offset, part_size}
use Rattle.exports.specs.Counts.{counts_size, rewrites_of, charge_of, charge_written, bay_of, bay_counts, bay_written}

-- ---- packing loses nothing

-- what a returned number says: its lowest byte is the refusal, and where that is 0 the value stands above it
abbrev pub unpacked : ℕ → Outcome
unpacked n = cond (eqb (n % 256) 0) (accepted (n / 256)) (refused (n % 256))

-- the outcome is given back by its number
abbrev pub Undone : Outcome → Type 0
Undone o = unpacked (packed o) ≡ o

-- so is every answer that a call gives, whatever it is lent
pub record PackingUndone : Type 0 where
  pub sum : (m a b : ℕ) → Undone (sum_of m a b)
  pub product : (m a b : ℕ) → Undone (product_of m a b)
  pub power : (m a e : ℕ) → Undone (power_of m a e)
  pub inverse : (m a : ℕ) → Undone (inverse_of m a)
  pub encode : (m : ℕ) (ds out : List ℕ) → Undone (encode_of m ds out)
  pub is-codeword : (m : ℕ) (w : List ℕ) → Undone (is_codeword_of m w)
  pub read-data : (m : ℕ) (w out : List ℕ) → Undone (read_data_of m w out)
  pub syndromes : (m : ℕ) (w es : List ℕ) → Undone (syndromes_of m w es)
  pub restore-word : (m : ℕ) (w es : List ℕ) → Undone (restore_of m w es)
  pub restore-word-within : (m : ℕ) (w es : List ℕ) (reach : ℕ) → Undone (within_of m w es reach)
  pub restore-record : (r : List ℕ) → Undone (record_of r)
  pub restore-record-within : (r : List ℕ) (reach : ℕ) → Undone (record_within_of r reach)
  pub card-to-new : (card out : List ℕ) → Undone (to_new_of card out)
  pub card-to-old : (card out : List ℕ) → Undone (to_old_of card out)
  pub write-sheet : (m : ℕ) (ss out : List ℕ) → Undone (write_sheet_of m ss out)
  pub read-sheet : (m : ℕ) (w out : List ℕ) → Undone (read_sheet_of m w out)
  pub walk_step : (w : Walk) (card : List ℕ) → Undone (step_of w card)
  pub look : (card : List ℕ) (n : ℕ) (row : List ℕ) → Undone (look_of card n row)
  pub charge : (xs : List ℕ) → Undone (charge_of xs)
  pub bay-restore : (bay : ℕ) (reach : Option ℕ) (xs bytes : List ℕ) → Undone (bay_of bay reach xs bytes)
  pub compare-sheets : (c : List ℕ) (i : ℕ) (d : List ℕ) (j : ℕ) (signs : List ℕ) → Undone (into_of c i d j signs)
  pub compare-part : (c : List ℕ) (i : ℕ) (d : List ℕ) (j : ℕ) → Undone (compare_of c i d j)
  pub window : (w : Window) (report : List ℕ) → Undone (window_of w report)

-- the card check's number says just what it answers: 0 is no record's number
abbrev pub unchecked : ℕ → Check
unchecked zero = no_bad
unchecked (suc k) = bad (suc k)

abbrev pub CheckUndone : Type 0
CheckUndone = (card : List ℕ) → unchecked (checked (first_refused card)) ≡ first_refused card

-- what stands beside an answer in a number of 64 bits: byte k of it
abbrev pub byte_of : ℕ → ℕ → ℕ
byte_of n zero = n % 256
byte_of n (suc k) = byte_of (n / 256) k

-- the number of xrs_syndromes gives back refusal and syndromes
abbrev pub SyndromesUndone : Type 0
SyndromesUndone =
    (m : ℕ) (w es : List ℕ)
    → let n = packed_bytes (packed (syndromes_of m w es)) (syndromes_given m w es) in
    (unpacked (byte_of n 0) ≡ syndromes_of m w es) × (five (λ k. byte_of n (1 + k)) ≡ syndromes_given m w es)

-- the number of xrs_compare_sheets gives back refusal or choice, and the three totals
abbrev pub CompareUndone : Type 0
CompareUndone =
    (c : List ℕ) (i : ℕ) (d : List ℕ) (j : ℕ) (signs : List ℕ)
    → let t = into_total c i d j signs in
    let n = packed_totals (packed (into_of c i d j signs)) (t 0) (t 1) (t 2) in
    (unpacked (n % 65536) ≡ into_of c i d j signs) × (byte_of n 2 ≡ t 0) × (byte_of n 3 ≡ t 1) × (byte_of n 4 ≡ t 2)

-- ---- demand 3 of the calls for C

-- xrs_restore_word, or that by trials, was lent the word w with the erasures es, returned n and left u in the word's place. It returns k
-- changes and leaves c exactly when the input passes and c is the one near codeword, with k its count; 7 exactly when it passes and none is
-- near; and a number with a refusal in its lowest byte leaves every byte of the word as it was
pub record WordDecoded (m : ℕ) (w es : List ℕ) (n : ℕ) (u : List ℕ) : Type 0 where
  pub restored : (k : ℕ) (c : List ℕ) → ((n ≡ 256 * k) × (u ≡ c)) ↔ (Passes m w es × Nearest m w es (radius m (length es)) c k)
  pub none-near : (n ≡ 7) ↔ (Passes m w es × ((c : List ℕ) → Near m es w (radius m (length es)) c → ⊥))
  pub refused-unchanged : n % 256 ≢ 0 → u ≡ w

abbrev pub WordDecodes : Type 0
WordDecodes =
    (m : ℕ) (w es : List ℕ) (n : ℕ) (u : List ℕ) → n ≡ packed (restore_of m w es) → u ≡ restore_written m w es → WordDecoded m w es n u

-- the same of xrs_restore_record, which was lent the record r
pub record RecordCallDecoded (r : List ℕ) (n : ℕ) (u : List ℕ) : Type 0 where
  pub restored : (k : ℕ) (c : List ℕ)
      → ((n ≡ 256 * k) × HoldsWord (width_of r) c u) ↔ (RecordPasses r × Nearest (width_of r) (word_of r) (erasures_of r) (reach_of r) c k)
  pub none-near : (n ≡ 7) ↔ (RecordPasses r × ((c : List ℕ) → Near (width_of r) (erasures_of r) (word_of r) (reach_of r) c → ⊥))
  pub refused-unchanged : n % 256 ≢ 0 → u ≡ r

abbrev pub RecordCallDecodes : Type 0
RecordCallDecodes = (r : List ℕ) (n : ℕ) (u : List ℕ) → n ≡ packed (record_of r) → u ≡ record_written r → RecordCallDecoded r n u

-- ---- a chain of calls on the dock: xrs_charge, then xrs_bay_restore or xrs_bay_restore_within, as often as one likes, each lent the five
-- counts as the call before left them

-- the counts behind the calls
unfoldable pub counts_after : List ℕ → List Call → List ℕ
counts_after xs [] = xs
counts_after xs (c ∷ cs) = counts_after (bay_counts c.bay c.reach xs c.lent) cs

-- what a look at the memory before and after each call records
unfoldable pub chain_history : List ℕ → List Call → List Entry
chain_history xs [] = []
chain_history xs (c ∷ cs) =
    record { bay = c.bay; lent = c.lent; back = bay_written c.bay c.reach xs c.lent }
    ∷ chain_history (bay_counts c.bay c.reach xs c.lent) cs

-- it is the run of the same calls since the charge, of which the dock's demands speak; xs is what was lent to xrs_charge
abbrev pub ChainRuns : Type 0
ChainRuns =
    (xs : List ℕ) (cs : List Call) → length xs ≡ counts_size
    → (rewrites_of (counts_after (charge_written xs) cs) ≡ left_after charged cs) × (chain_history (charge_written xs) cs ≡ history charged cs)

-- the rewrites used, counted from the history, and the five counts make 1,000
abbrev pub ChainThousand : Type 0
ChainThousand =
    (xs : List ℕ) (cs : List Call) → length xs ≡ counts_size
    → used (chain_history (charge_written xs) cs) + own_sum (counts_after (charge_written xs) cs) ≡ 1000

-- a bay that has had fewer than its 100 rewrites is not denied: its next call answers and leaves the record as without bays
abbrev pub ChainNotDenied : Type 0
ChainNotDenied =
    (xs : List ℕ) (cs : List Call) (c : Call) → length xs ≡ counts_size → c.bay < bays
    → used_by c.bay (chain_history (charge_written xs) cs) < own_charge
    → let counts = counts_after (charge_written xs) cs in
    (bay_of c.bay c.reach counts c.lent ≡ answer_of c)
    × (bay_of c.bay c.reach counts c.lent ≢ refused 19)
    × (bay_written c.bay c.reach counts c.lent ≡ content_of c)

-- ---- the part of a comparison

-- the bytes from the offset on, so many as the size says, of the chosen card are the part, as it was lent
abbrev pub PartFound : Type 0
PartFound =
    (c : List ℕ) (i : ℕ) (d : List ℕ) (j w x y : ℕ) → compare_of c i d j ≡ accepted w
    → take (part_size (compare_of c i d j) y) (drop (part_offset (compare_of c i d j) i j x) (cond (eqb w 1) c d)) ≡ compare_part c i d j
