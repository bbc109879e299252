-- The statements of specs/Demands.antt, each under its name in small letters. Assumes nothing.
use Rattle.std.proofs.Common.{None, Some, Option, Ok, Err, Result}
use Rattle.field.proofs.Base.{eq-eqb, ne_eqb, le-ltb, ◌≡◌, refl, sym, ap, ap₂, ◌∙◌, subst, ◌≢◌, Bool, true, false, cond, not, List, [], ◌∷◌, ◌++◌, ℕ}
use Rattle.field.proofs.Base.{zero, suc, ◌+◌, ◌*◌, ◌/◌, ◌%◌, ◌≤◌, ◌<◌, dec_lt, arith, eqb, leb, ltb, length, replicate, length-append, length-take}
use Rattle.field.specs.Polynomial.{add}
use Rattle.field.specs.Field.{order, product as product_m, power as power_m, inverse as inverse_m}
use Rattle.field.specs.Answer.{operands, sum_of, product_of, power_of, inverse_of}
use Rattle.field.specs.Question.{Verdict, Outcome, accepted, refused, refusal, ask, after}
use Rattle.field.specs.declared.Question.{Question}
use Rattle.field.specs.declared.Question.TheVariants.{Bay, Nonzero, Correctable, Unique, Rewrite, SameDay}
use Rattle.field.proofs.Widths.{field_of, order_small}
use Rattle.field.proofs.Demands.{numbers-range}
use Rattle.code.specs.Word.{checks, five}
use Rattle.code.specs.Erasure.{masked_syndrome, syndromes_without}
use Rattle.code.specs.Near.{radius, Restoration, none, one, several, restoration}
use Rattle.code.specs.Call.{encode_asked, encode_of, is_codeword_asked, is_codeword_of, read_data_asked, read_data_of, zero_syndromes}
use Rattle.code.specs.Call.{repair, restore_of, done, written, shown, decided, restore_asked, within_asked, within_of, syndromes_of}
use Rattle.code.specs.Demands.{occurs}
use Rattle.code.proofs.Sums.{parity-lt}
use Rattle.code.proofs.restoring.Filling.{masked-lt}
use Rattle.code.proofs.calls.Passing.{given, passes-radius}
use Rattle.code.proofs.Demands.{accepts, refuses-seven, refused-unchanged}
use Rattle.card.proofs.Demands.{record-decodes}
use Rattle.card.specs.Record.{record_asked, width_of, word_of, erasures_of, reach_of, record_of, record_within_of, copy_written}
use Rattle.card.specs.Card.{Check, no_bad, bad, record_numbered, first_refused}
use Rattle.card.specs.Conversion.{to_new_asked, to_new_of, to_old_asked, to_old_of}
use Rattle.card.proofs.Checking.{first_some}
use Rattle.sheet.specs.Sheet.{sheet_size, symbols_of}
use Rattle.sheet.specs.Call.{write_sheet_asked, write_sheet_of, read_sheet_asked, read_sheet_of}
use Rattle.walk.specs.Walk.{step_asked, step_of}
use Rattle.walk.specs.Look.{uncounted, look_asked, look_of}
use Rattle.dock.specs.declared.Rewrites.{Rewrites}
use Rattle.dock.specs.Dock.{bays, charged, Call, call_on, answer_at, answer_of, content_of, allowed, granted, call_of, call_written, call_left}
use Rattle.dock.specs.Run.{Entry, left_after, history, own_sum, all_left, used, used_by}
use Rattle.dock.proofs.Running.{size-on}
use Rattle.dock.proofs.Demands.{thousand, not-denied, refused-stays}
use Rattle.report.specs.Day.{slot_of, Day, sheet, no_sheet, read_day, copy_day, day_of}
use Rattle.report.specs.Compare.{same_day, chosen_of, compared_of, numbers_asked, compare_of, compare_total, symbols_at, sheet_signs, or_zero, into_asked, into_of}
use Rattle.report.specs.Window.{window_asked, window_of}
use Rattle.report.proofs.Demands.{compare-accepts, totals-make}
use Rattle.exports.specs.Packed.{packed, packed_bytes, packed_totals, checked}
use Rattle.exports.specs.Counts.{counts_size, rewrites_of, lent_counts, counts_asked, charge_of, charge_written, bay_asked, bay_of, bay_counts, bay_written}
use Rattle.exports.specs.Demands.{unpacked, Undone, PackingUndone, unchecked, CheckUndone, byte_of, SyndromesUndone, CompareUndone, counts_after}
use Rattle.exports.specs.Demands.{WordDecodes, RecordCallDecodes, chain_history, ChainRuns, ChainThousand, ChainNotDenied, PartFound}
use Rattle.exports.proofs.Parting as Parting
use Rattle.exports.proofs.Counting.{charge-written, asked-bay, asked-passed}

-- ---- refusal numbers are 1 to 21

abbrev Small : Outcome → Type 0
Small o = (n : ℕ) → o ≡ refused n → (1 ≤ n) × (n ≤ 21)

small-accepted : (k : ℕ) → Small (accepted k)
small-accepted k n e = let z : ◌≡◌ {A = ℕ} 0 1 = cc in absurd (omega arith)

small-refusal : (q : Question) → Small (refused (refusal q))
small-refusal q n e =
    let same : refusal q ≡ n = cc in
    let r = numbers-range q in
    (subst (λ (x : ℕ). 1 ≤ x) same r.0, subst (λ (x : ℕ). x ≤ 21) same r.1)

small-after : (v : Verdict) (o : Outcome) → Small o → Small (after v o)
small-after (Ok tt) o h = h
small-after (Err q) o h = small-refusal q

small-done : (v : Verdict) → Small (done v)
small-done v = small-after v (accepted 0) (small-accepted 0)

small-decided : (m : ℕ) (w es : List ℕ) (x : Restoration) → Small (decided m w es x)
small-decided m w es none n e = let z : ◌≡◌ {A = ℕ} 7 n = cc in (omega arith, omega arith)
small-decided m w es (one c) n e = let z : ◌≡◌ {A = ℕ} 0 1 = cc in absurd (omega arith)
small-decided m w es several n e = let z : ◌≡◌ {A = ℕ} 14 n = cc in (omega arith, omega arith)

small-within : (m : ℕ) (w es : List ℕ) (reach : ℕ) → Small (within_of m w es reach)
small-within m w es reach = small-after (within_asked m w es reach) _ (small-decided m w es (restoration m es w reach))

small-record-within : (r : List ℕ) (reach : ℕ) → Small (record_within_of r reach)
unfolding record_within_of
small-record-within r reach = small-after (record_asked r) _ (small-within (width_of r) (word_of r) (erasures_of r) reach)

small-record : (r : List ℕ) → Small (record_of r)
unfolding record_of
small-record r = small-record-within r (reach_of r)

small-uncounted : (o : Outcome) → Small o → Small (uncounted o)
small-uncounted (accepted k) h = small-accepted 0
small-uncounted (refused n) h = h

small-look : (card : List ℕ) (n : ℕ) (row : List ℕ) → Small (look_of card n row)
unfolding look_of
small-look card n row =
    small-after (look_asked (length card) n (length row)) _
    (small-uncounted (record_of (record_numbered card n)) (small-record (record_numbered card n)))

small-answer : (reach : Option ℕ) (r : List ℕ) → Small (answer_at reach r)
small-answer None r = small-record r
small-answer (Some k) r = small-record-within r k

small-granted : (o : Outcome) (b : Bool) → Small o → Small (granted o b)
small-granted (accepted k) b h = small-after (ask b Rewrite (Ok tt)) (accepted k) (small-accepted k)
small-granted (refused n) b h = h

small-call : (left : Rewrites) (c : Call) → Small (call_of left c)
unfolding call_of
small-call left c =
    small-after (ask (ltb c.bay bays) Bay (Ok tt)) _
    (small-granted (answer_of c) (allowed left c.bay c.lent (content_of c)) (small-answer c.reach c.lent))

abbrev SmallDay : Day → Type 0
SmallDay d = (n : ℕ) → d ≡ no_sheet n → (1 ≤ n) × (n ≤ 21)

small-read : (v : Verdict) (k : ℕ) (ss : List ℕ) → SmallDay (read_day v k ss)
small-read (Ok tt) k ss n e = let z : ◌≡◌ {A = ℕ} 0 1 = cc in absurd (omega arith)
small-read (Err q) k ss n e = let same : refusal q ≡ n = cc in small-refusal q n (ap refused same)

small-copy : (o : Outcome) (copy : List ℕ) → Small o → SmallDay (copy_day o copy)
small-copy (accepted k) copy h = small-read (read_sheet_asked (width_of copy) (word_of copy) sheet_size) k (symbols_of (word_of copy))
small-copy (refused n) copy h = λ i e. let same : n ≡ i = cc in h i (ap refused same)

small-day : (r : List ℕ) → SmallDay (day_of r)
unfolding day_of
small-day r = small-copy (record_of r) (copy_written r) (small-record r)

small-compared : (a b : Day) → SmallDay a → SmallDay b → Small (compared_of a b)
small-compared (no_sheet n) b h k = λ i e. let same : n ≡ i = cc in h i (ap no_sheet same)
small-compared (sheet j ss) (no_sheet n) h k = λ i e. let same : n ≡ i = cc in k i (ap no_sheet same)
small-compared (sheet j ss) (sheet l ts) h k =
    small-after (ask (same_day ss ts) SameDay (Ok tt)) (accepted (chosen_of j l)) (small-accepted (chosen_of j l))

small-compare : (c : List ℕ) (i : ℕ) (d : List ℕ) (j : ℕ) → Small (compare_of c i d j)
unfolding compare_of
small-compare c i d j =
    small-after (numbers_asked c i d j) _
    (small-compared (day_of (slot_of c i)) (day_of (slot_of d j)) (small-day (slot_of c i)) (small-day (slot_of d j)))

small-into : (c : List ℕ) (i : ℕ) (d : List ℕ) (j : ℕ) (signs : List ℕ) → Small (into_of c i d j signs)
unfolding into_of
small-into c i d j signs = small-after (into_asked c i d j (length signs)) _ (small-compare c i d j)

-- ---- a refusal is the number of a question

abbrev Told : Outcome → Type 0
Told o = (n : ℕ) → o ≡ refused n → (q : Question) × (n ≡ refusal q)

told-accepted : (k : ℕ) → Told (accepted k)
told-accepted k n e = let z : ◌≡◌ {A = ℕ} 0 1 = cc in absurd (omega arith)

told-refusal : (q : Question) → Told (refused (refusal q))
told-refusal q n e = (q, cc)

told-after : (v : Verdict) (o : Outcome) → Told o → Told (after v o)
told-after (Ok tt) o h = h
told-after (Err q) o h = told-refusal q

told-decided : (m : ℕ) (w es : List ℕ) (x : Restoration) → Told (decided m w es x)
told-decided m w es none = told-refusal Correctable
told-decided m w es (one c) = told-accepted _
told-decided m w es several = told-refusal Unique

told-record : (r : List ℕ) → Told (record_of r)
unfolding record_of record_within_of
told-record r =
    told-after (record_asked r) _
    (told-after (within_asked (width_of r) (word_of r) (erasures_of r) (reach_of r)) _
    (told-decided (width_of r) (word_of r) (erasures_of r) (restoration (width_of r) (erasures_of r) (word_of r) (reach_of r))))

-- ---- packing loses nothing

unpack-value : (n v : ℕ) → n % 256 ≡ 0 → n / 256 ≡ v → unpacked n ≡ accepted v
unpack-value n v z e = ap₂ (λ (t : Bool) (x : ℕ). cond t (accepted x) (refused (n % 256))) (eq-eqb (n % 256) 0 z) e

unpack-refusal : (n k : ℕ) → n % 256 ≡ k → k ≢ 0 → unpacked n ≡ refused k
unpack-refusal n k e h =
    ap (λ (t : Bool). cond t (accepted (n / 256)) (refused (n % 256))) (ne_eqb (n % 256) 0 (λ z. h (sym e ∙ z))) ∙ ap refused e

undone : (o : Outcome) → Small o → Undone o
undone (accepted v) h = unpack-value (256 * v) v (omega arith) (omega arith)
undone (refused n) h = let r = h n refl in unpack-refusal n n (omega (arith, r.1)) (λ z. omega (arith, r.0))

pub packing-undone : PackingUndone
packing-undone = record {
  sum = λ m a b. undone (sum_of m a b) (small-after (operands m (a ∷ b ∷ [])) _ (small-accepted (add a b)));
  product = λ m a b. undone (product_of m a b) (small-after (operands m (a ∷ b ∷ [])) _ (small-accepted (product_m m a b)));
  power = λ m a e. undone (power_of m a e) (small-after (operands m (a ∷ [])) _ (small-accepted (power_m m a e)));
  inverse = λ m a. undone (inverse_of m a)
      (small-after (operands m (a ∷ [])) _ (small-after (ask (not (eqb a 0)) Nonzero (Ok tt)) _ (small-accepted (inverse_m m a))));
  encode = λ m ds out. undone (encode_of m ds out) (small-done (encode_asked m ds (length out)));
  is-codeword = λ m w. undone (is_codeword_of m w) (small-after (is_codeword_asked m w) _ (small-accepted (cond (zero_syndromes m w) 1 0)));
  read-data = λ m w out. undone (read_data_of m w out) (small-done (read_data_asked m w (length out)));
  syndromes = λ m w es. undone (syndromes_of m w es) (small-done (restore_asked m w es));
  restore-word = λ m w es. undone (restore_of m w es) (small-within m w es (radius m (length es)));
  restore-word-within = λ m w es reach. undone (within_of m w es reach) (small-within m w es reach);
  restore-record = λ r. undone (record_of r) (small-record r);
  restore-record-within = λ r reach. undone (record_within_of r reach) (small-record-within r reach);
  card-to-new = λ card out. undone (to_new_of card out) (small-done (to_new_asked card (length out)));
  card-to-old = λ card out. undone (to_old_of card out) (small-done (to_old_asked card (length out)));
  write-sheet = λ m ss out. undone (write_sheet_of m ss out) (small-done (write_sheet_asked m ss (length out)));
  read-sheet = λ m w out. undone (read_sheet_of m w out) (small-done (read_sheet_asked m w (length out)));
  walk_step = λ w card. undone (step_of w card) (small-done (step_asked w (length card)));
  look = λ card n row. undone (look_of card n row) (small-look card n row);
  charge = λ xs. undone (charge_of xs) (small-done (counts_asked (length xs)));
  bay-restore = λ bay reach xs bytes. undone (bay_of bay reach xs bytes)
      (small-after (bay_asked bay (length xs)) _ (small-call (rewrites_of xs) (call_on bay reach bytes)));
  compare-sheets = λ c i d j signs. undone (into_of c i d j signs) (small-into c i d j signs);
  compare-part = λ c i d j. undone (compare_of c i d j) (small-compare c i d j);
  window = λ w report. undone (window_of w report) (small-done (window_asked w (length report)));
}

pub check-undone : CheckUndone
check-undone card = go (first_refused card) refl
  where
    go : (x : Check) → first_refused card ≡ x → unchecked (checked x) ≡ x
    go no_bad e = refl
    go (bad zero) e = absurd (omega (arith, ((first_some card 0).0 e).number))
    go (bad (suc k)) e = refl

-- ---- numbers of 64 bits

byte_low : (p x : ℕ) → p < 256 → byte_of (p + 256 * x) 0 ≡ p
byte_low p x h = omega arith

byte_high : (p x k : ℕ) → p < 256 → byte_of (p + 256 * x) (suc k) ≡ byte_of x k
byte_high p x k h = let up : (p + 256 * x) / 256 ≡ x = omega arith in ap (λ (y : ℕ). byte_of y k) up

-- the last of the bytes
byte_last : (p : ℕ) → p < 256 → byte_of p 0 ≡ p
byte_last p h = omega arith

-- five bytes above a sixth
module _ (p b0 b1 b2 b3 b4 : ℕ) (hp : p < 256) (h0 : b0 < 256) (h1 : b1 < 256) (h2 : b2 < 256) (h3 : b3 < 256) (h4 : b4 < 256) where
  abbrev above : ℕ → ℕ
  above k = byte_of (b0 + 256 * (b1 + 256 * (b2 + 256 * (b3 + 256 * b4)))) k

  at_zero : above 0 ≡ b0
  at_zero = byte_low b0 _ h0

  at_one : above 1 ≡ b1
  at_one = byte_high b0 _ 0 h0 ∙ byte_low b1 _ h1

  at-two : above 2 ≡ b2
  at-two = byte_high b0 _ 1 h0 ∙ byte_high b1 _ 0 h1 ∙ byte_low b2 _ h2

  at-three : above 3 ≡ b3
  at-three = byte_high b0 _ 2 h0 ∙ byte_high b1 _ 1 h1 ∙ byte_high b2 _ 0 h2 ∙ byte_low b3 _ h3

  at-four : above 4 ≡ b4
  at-four = byte_high b0 _ 3 h0 ∙ byte_high b1 _ 2 h1 ∙ byte_high b2 _ 1 h2 ∙ byte_high b3 _ 0 h3 ∙ byte_last b4 h4

  bytes_back : (byte_of (packed_bytes p (b0 ∷ b1 ∷ b2 ∷ b3 ∷ b4 ∷ [])) 0 ≡ p)
      × (five (λ k. byte_of (packed_bytes p (b0 ∷ b1 ∷ b2 ∷ b3 ∷ b4 ∷ [])) (1 + k)) ≡ b0 ∷ b1 ∷ b2 ∷ b3 ∷ b4 ∷ [])
  bytes_back = (
    byte_low p _ hp,
    ap₂ ◌∷◌ (byte_high p _ 0 hp ∙ at_zero)
        (ap₂ ◌∷◌ (byte_high p _ 1 hp ∙ at_one)
        (ap₂ ◌∷◌ (byte_high p _ 2 hp ∙ at-two)
        (ap₂ ◌∷◌ (byte_high p _ 3 hp ∙ at-three) (ap (λ (x : ℕ). x ∷ []) (byte_high p _ 4 hp ∙ at-four))))),
  )

-- a syndrome fits a byte
syndrome-low : (m : ℕ) (w es : List ℕ) → restore_asked m w es ≡ (Ok tt) → (k : ℕ) → k < checks → masked_syndrome m es w k < 256
syndrome-low m w es p k h =
    let G = given m w es p in
    let F = field_of m G.width in
    let low : masked_syndrome m es w k < order m =
    F.add-lt _ _ (masked-lt F G.lent k (omega (arith, F.one-lt))) (parity-lt F _ k) in
    omega (arith, low, order_small m G.width)

pub syndromes-undone : SyndromesUndone
syndromes-undone m w es = go (restore_asked m w es) refl
  where
    back : (v : Verdict) (xs : List ℕ) → (byte_of (packed_bytes (packed (done v)) xs) 0 ≡ packed (done v))
        → unpacked (byte_of (packed_bytes (packed (done v)) xs) 0) ≡ done v
    back v xs e = ap unpacked e ∙ undone (done v) (small-done v)

    go : (v : Verdict) → restore_asked m w es ≡ v
        → (unpacked (byte_of (packed_bytes (packed (done v)) (shown v (syndromes_without m es w))) 0) ≡ done v)
        × (five (λ k. byte_of (packed_bytes (packed (done v)) (shown v (syndromes_without m es w))) (1 + k)) ≡ shown v (syndromes_without m es w))
    go (Ok tt) e =
        let low = syndrome-low m w es e in
        let f = masked_syndrome m es w in
        let b =
        bytes_back 0 (f 0) (f 1) (f 2) (f 3) (f 4) (omega arith) (low 0 (omega arith)) (low 1 (omega arith)) (low 2 (omega arith))
        (low 3 (omega arith)) (low 4 (omega arith)) in
        (back (Ok tt) (syndromes_without m es w) b.0, b.1)
    go (Err q) e =
        let b =
        bytes_back (refusal q) 0 0 0 0 0 (omega (arith, (numbers-range q).1)) (omega arith) (omega arith) (omega arith) (omega arith) (omega arith) in
        (back (Err q) (replicate checks 0) b.0, b.1)

-- three totals above an answer of two bytes
totals-back : (p e a b : ℕ) → p < 65536 → e < 256 → a < 256 → b < 256
    → (packed_totals p e a b % 65536 ≡ p) × (byte_of (packed_totals p e a b) 2 ≡ e) × (byte_of (packed_totals p e a b) 3 ≡ a)
    × (byte_of (packed_totals p e a b) 4 ≡ b)
totals-back p e a b hp he ha hb =
    let x = e + 256 * (a + 256 * b) in
    let up : packed_totals p e a b / 256 / 256 ≡ x = omega arith in (
      omega arith,
      ap (λ (y : ℕ). byte_of y 0) up ∙ byte_low e _ he,
      ap (λ (y : ℕ). byte_of y 1) up ∙ byte_high e _ 0 he ∙ byte_low a _ ha,
      ap (λ (y : ℕ). byte_of y 2) up ∙ byte_high e _ 1 he ∙ byte_high a _ 0 ha ∙ byte_last b hb,
    )

module _ (c : List ℕ) (i : ℕ) (d : List ℕ) (j : ℕ) (signs : List ℕ) where
  -- where the call accepts, so did the comparison
  into-accepted : (w : ℕ) → into_of c i d j signs ≡ accepted w → compare_of c i d j ≡ accepted w
  unfolding into_of
  into-accepted w e = go (into_asked c i d j (length signs)) e
    where
      go : (v : Verdict) → after v (compare_of c i d j) ≡ accepted w → compare_of c i d j ≡ accepted w
      go (Ok tt) f = f
      go (Err q) f = let z : ◌≡◌ {A = ℕ} 0 1 = cc in absurd (omega arith)

  abbrev has_sign : ℕ → ℕ
  has_sign s = occurs s (sheet_signs (symbols_at c i) (symbols_at d j))

  chosen-low : (w : ℕ) → compare_of c i d j ≡ accepted w → w ≤ 2
  chosen-low w e = let A = (compare-accepts c i d j w).0 e in go (leb A.k A.l) A.chosen
    where
      go : (b : Bool) → w ≡ cond b 1 2 → w ≤ 2
      go true f = omega arith
      go false f = omega arith

  signs-make : (w : ℕ) → compare_of c i d j ≡ accepted w → has_sign 0 + has_sign 1 + has_sign 2 ≡ 96
  signs-make w e = omega (arith, totals-make c i d j w e, shown-as 0, shown-as 1, shown-as 2)
    where
      shown-as : (s : ℕ) → compare_total c i d j s ≡ has_sign s
      shown-as s = ap (λ (o : Outcome). or_zero o (has_sign s)) e

pub compare-undone : CompareUndone
compare-undone c i d j signs = go (into_of c i d j signs) refl
  where
    has : ℕ → ℕ
    has = has_sign c i d j signs

    go : (o : Outcome) → into_of c i d j signs ≡ o
        → (unpacked (packed_totals (packed o) (or_zero o (has 0)) (or_zero o (has 1)) (or_zero o (has 2)) % 65536) ≡ o)
        × (byte_of (packed_totals (packed o) (or_zero o (has 0)) (or_zero o (has 1)) (or_zero o (has 2))) 2 ≡ or_zero o (has 0))
        × (byte_of (packed_totals (packed o) (or_zero o (has 0)) (or_zero o (has 1)) (or_zero o (has 2))) 3 ≡ or_zero o (has 1))
        × (byte_of (packed_totals (packed o) (or_zero o (has 0)) (or_zero o (has 1)) (or_zero o (has 2))) 4 ≡ or_zero o (has 2))
    go (accepted w) e =
        let f = into-accepted c i d j signs w e in
        let sum = signs-make c i d j signs w f in
        let low = chosen-low c i d j signs w f in
        let t = totals-back (256 * w) (has 0) (has 1) (has 2) (omega arith) (omega arith) (omega arith) (omega arith) in
        (ap unpacked t.0 ∙ undone (accepted w) (small-accepted w), t.1, t.2, t.3)
    go (refused n) e =
        let r = small-into c i d j signs n e in
        let t = totals-back n 0 0 0 (omega (arith, r.1)) (omega arith) (omega arith) (omega arith) in
        (ap unpacked t.0 ∙ undone (refused n) (λ k f. small-into c i d j signs k (e ∙ f)), t.1, t.2, t.3)

-- ---- demand 3 of the calls for C

-- a number tells the outcome
tells : (o p : Outcome) → Small o → Small p → packed o ≡ packed p → o ≡ p
tells o p h k e = sym (undone o h) ∙ ap unpacked e ∙ undone p k

seven : Small (refused 7)
seven n e = let z : ◌≡◌ {A = ℕ} 7 n = cc in (omega arith, omega arith)

-- a number with a refusal in its lowest byte is that of a refusal
refusing : (o : Outcome) → packed o % 256 ≢ 0 → (n : ℕ) × (o ≡ refused n)
refusing (accepted v) h = absurd (h (omega arith))
refusing (refused n) h = (n, refl)

-- n is the number of the outcome o
module _ (n : ℕ) (o : Outcome) (small : Small o) (e : n ≡ packed o) where
  says-value : (k : ℕ) → n ≡ 256 * k → o ≡ accepted k
  says-value k f = tells o (accepted k) small (small-accepted k) (sym e ∙ f)

  value-says : (k : ℕ) → o ≡ accepted k → n ≡ 256 * k
  value-says k f = e ∙ ap packed f

  says-seven : n ≡ 7 → o ≡ refused 7
  says-seven f = tells o (refused 7) small seven (sym e ∙ f)

  seven-says : o ≡ refused 7 → n ≡ 7
  seven-says f = e ∙ ap packed f

  says-refused : n % 256 ≢ 0 → (k : ℕ) × (o ≡ refused k)
  says-refused h = refusing o (λ z. h (ap (λ (x : ℕ). x % 256) e ∙ z))

pub word-decodes : WordDecodes
word-decodes m w es n u e f =
    let r = radius m (length es) in
    let o = restore_of m w es in
    let small = small-within m w es r in
    record {
      restored = λ k c. (
        λ h. (let a = (accepts m w es r k c).0 (says-value n o small e k h.0, sym f ∙ h.1) in (sym (passes-radius m w es) ∙ a.0, a.1)),
        λ h. (let a = (accepts m w es r k c).1 (passes-radius m w es ∙ h.0, h.1) in (value-says n o small e k a.0, f ∙ a.1)),
      );
      none-near = (
        λ h. (let a = (refuses-seven m w es r).0 (says-seven n o small e h) in (sym (passes-radius m w es) ∙ a.0, a.1)),
        λ h. seven-says n o small e ((refuses-seven m w es r).1 (passes-radius m w es ∙ h.0, h.1)),
      );
      refused-unchanged = λ h. (let k = says-refused n o small e h in f ∙ refused-unchanged m w es r k.0 k.1);
    }

-- an answer with this outcome
answering : (r : List ℕ) → (a : Result ℕ Question) × (repair a ≡ record_of r)
answering r = go (record_of r) (told-record r)
  where
    go : (o : Outcome) → Told o → (a : Result ℕ Question) × (repair a ≡ o)
    go (accepted k) t = (Ok k, refl)
    go (refused n) t = (Err (t n refl).0, ap refused (sym (t n refl).1))

pub record-call-decodes : RecordCallDecodes
record-call-decodes r n u e f =
    let A = answering r in
    let D = record-decodes r A.0 u (record { answer = A.1; content = f }) in
    let o = record_of r in
    let small = small-record r in
    record {
      restored = λ k c. (
        λ h. (D.restored k c).0 (A.1 ∙ says-value n o small e k h.0, h.1),
        λ h. (let a = (D.restored k c).1 h in (value-says n o small e k (sym A.1 ∙ a.0), a.1)),
      );
      none-near = (
        λ h. D.none-near.0 (A.1 ∙ says-seven n o small e h),
        λ h. seven-says n o small e (sym A.1 ∙ D.none-near.1 h),
      );
      refused-unchanged = λ h. (let k = says-refused n o small e h in D.refused-unchanged k.0 (A.1 ∙ k.1));
    }

-- ---- a chain of calls on the dock

-- lent counts say the rewrites that were written
lent_back : (own : List ℕ) (common : ℕ) → length own ≡ bays → rewrites_of (own ++ (common ∷ [])) ≡ record { own = own; common = common }
lent_back [] n h = absurd (omega arith)
lent_back (a ∷ []) n h = absurd (omega arith)
lent_back (a ∷ b ∷ []) n h = absurd (omega arith)
lent_back (a ∷ b ∷ c ∷ []) n h = absurd (omega arith)
lent_back (a ∷ b ∷ c ∷ d ∷ []) n h = refl
lent_back (a ∷ b ∷ c ∷ d ∷ e ∷ own) n h = absurd (omega arith)

five-sum : (xs : List ℕ) → length xs ≡ counts_size → all_left (rewrites_of xs) ≡ own_sum xs
five-sum [] h = absurd (omega arith)
five-sum (a ∷ []) h = absurd (omega arith)
five-sum (a ∷ b ∷ []) h = absurd (omega arith)
five-sum (a ∷ b ∷ c ∷ []) h = absurd (omega arith)
five-sum (a ∷ b ∷ c ∷ d ∷ []) h = absurd (omega arith)
five-sum (a ∷ b ∷ c ∷ d ∷ e ∷ []) h = omega arith
five-sum (a ∷ b ∷ c ∷ d ∷ e ∷ x ∷ xs) h = absurd (omega arith)

-- the counts xs say the rewrites left, and a call c comes
record Stepped (xs : List ℕ) (left : Rewrites) (c : Call) : Type 0 where
  size : length (bay_counts c.bay c.reach xs c.lent) ≡ counts_size
  rest : rewrites_of (bay_counts c.bay c.reach xs c.lent) ≡ call_left left c
  back : bay_written c.bay c.reach xs c.lent ≡ call_written left c

-- a bay above 3 is refused in either way
no-bay : (left : Rewrites) (c : Call) → bays ≤ c.bay → call_of left c ≡ refused 18
unfolding call_of
no-bay left c h = simp (le-ltb c.bay bays h)

stepped : (xs : List ℕ) (c : Call) → length xs ≡ counts_size → Stepped xs (rewrites_of xs) c
stepped xs c h = go (dec_lt c.bay bays)
  where
    left : Rewrites
    left = rewrites_of xs

    four : length left.own ≡ bays
    four = simp length-take (omega arith)

    own : length (call_left left c).own ≡ bays
    own = size-on left c ∙ four

    -- by the verdict
    by : (v : Verdict) → bay_asked c.bay (length xs) ≡ v → length (written v xs (lent_counts (call_left left c))) ≡ counts_size
        → rewrites_of (written v xs (lent_counts (call_left left c))) ≡ call_left left c → written v c.lent (call_written left c) ≡ call_written left c
        → Stepped xs left c
    by v p n r b =
        record {
          size = ap (λ (u : Verdict). length (written u xs (lent_counts (call_left left c)))) p ∙ n;
          rest = ap (λ (u : Verdict). rewrites_of (written u xs (lent_counts (call_left left c)))) p ∙ r;
          back = ap (λ (u : Verdict). written u c.lent (call_written left c)) p ∙ b;
        }

    go : Dec (c.bay < bays) → Stepped xs left c
    go (yes l) =
        by (Ok tt) (sym (asked-passed c.bay (length xs) (omega arith) h))
        (length-append (call_left left c).own ((call_left left c).common ∷ []) ∙ omega (arith, own))
        (lent_back (call_left left c).own (call_left left c).common own) refl
    go (no n) =
        let s = refused-stays left c 18 (no-bay left c (omega arith)) in
        by (Err Bay) (sym (asked-bay c.bay (length xs) (omega arith))) h (sym s.1) (sym s.0)

record Chained (xs : List ℕ) (left : Rewrites) (cs : List Call) : Type 0 where
  size : length (counts_after xs cs) ≡ counts_size
  rest : rewrites_of (counts_after xs cs) ≡ left_after left cs
  story : chain_history xs cs ≡ history left cs

chained : (cs : List Call) (xs : List ℕ) (left : Rewrites) → length xs ≡ counts_size → rewrites_of xs ≡ left → Chained xs left cs
unfolding counts_after chain_history left_after history
chained [] xs left h e = record { size = h; rest = e; story = refl }
chained (c ∷ cs) xs left h e =
    let S : Stepped xs left c = subst (λ (l : Rewrites). Stepped xs l c) e (stepped xs c h) in
    let R = chained cs (bay_counts c.bay c.reach xs c.lent) (call_left left c) S.size S.rest in
    record {
      size = R.size;
      rest = R.rest;
      story = ap₂ (λ (b : List ℕ) (es : List Entry). record { bay = c.bay; lent = c.lent; back = b } ∷ es) S.back R.story;
    }

since-charge : (xs : List ℕ) (cs : List Call) → length xs ≡ counts_size → Chained (charge_written xs) charged cs
since-charge xs cs h =
    subst (λ (ys : List ℕ). Chained ys charged cs) (charge-written xs h)
    (chained cs (lent_counts charged) charged refl refl)

pub chain_runs : ChainRuns
chain_runs xs cs h = let C = since-charge xs cs h in (C.rest, C.story)

pub chain-thousand : ChainThousand
chain-thousand xs cs h =
    let C = since-charge xs cs h in
    omega (arith, thousand cs, ap used C.story, ap all_left C.rest, five-sum (counts_after (charge_written xs) cs) C.size)

pub chain-not-denied : ChainNotDenied
chain-not-denied xs cs c h l few =
    let C = since-charge xs cs h in
    let counts = counts_after (charge_written xs) cs in
    let A = not-denied cs c l (omega (arith, few, ap (used_by c.bay) C.story)) in
    let p : bay_asked c.bay (length counts) ≡ (Ok tt) = sym (asked-passed c.bay (length counts) (omega arith) C.size) in
    let answer : bay_of c.bay c.reach counts c.lent ≡ answer_of c =
    ap₂ (λ (v : Verdict) (l : Rewrites). after v (call_of l c)) p C.rest ∙ A.answer in (
      answer,
      λ e. A.not-denied (A.answer ∙ sym answer ∙ e),
      ap₂ (λ (v : Verdict) (l : Rewrites). written v c.lent (call_written l c)) p C.rest ∙ A.content,
    )

-- ---- the part of a comparison

pub part-found : PartFound
part-found = Parting.part-found
