-- Restoring is idempotent: a restored record restores to itself, with 0 changed, at every reach allowed; and what stands in it. Assumes
-- nothing.
use Rattle.std.proofs.Common.{Ok, Err}
use Rattle.field.specs.Question.{Verdict}
use Rattle.field.proofs.Base.{eq-eqb, ◌≡◌, refl, sym, ap, ◌∙◌, true, List, [], ◌++◌, ℕ, zero, suc, ◌-◌, ◌≤◌, le_refl, arith, length, drop, replicate}
use Rattle.field.proofs.Base.{length-append, length-replicate, take_at, drop_at, drop-drop}
use lib.Dec.{leb-zero}
use Rattle.field.specs.Question.{Outcome, accepted, refused, after, is_width}
use Rattle.code.specs.Word.{places, longest, Codeword}
use Rattle.code.specs.Near.{radius}
use Rattle.code.specs.Call.{within_of, within_written}
use Rattle.code.proofs.Lengths.{places-most}
use Rattle.code.proofs.Demands.{accepts, codeword-stays}
use Rattle.card.specs.Record.{erasure_bytes, record_size, width_of, erasures_of, word_of, all_are, allowed_in, asked_in}
use Rattle.card.specs.inner.Parts.{header_size, tail_of}
use Rattle.card.specs.Record.{record_asked, clear_record, on_accept, record_within_of, record_within_written, reach_of, record_of, record_written}
use Rattle.card.proofs.Layouts.{Asked, asked}

-- ---- a record that holds a codeword and has no erasures

all-zeros : (n : ℕ) → all_are 0 (replicate n 0) ≡ true
all-zeros zero = refl
all-zeros (suc n) = all-zeros n

module _ (m : ℕ) (h : is_width m ≡ true) (c : List ℕ) (C : Codeword m c) where
  pub clear-size : length (clear_record m c) ≡ record_size
  clear-size = simp (length-append, length-replicate) (omega (arith, places-most m h, C.size))

  pub clear-word : word_of (clear_record m c) ≡ c
  clear-word = take_at c (replicate (longest - length c) 0) (places m) C.size

  clear-tail : tail_of (clear_record m c) ≡ replicate (longest - length c) 0
  clear-tail = sym (drop-drop (places m) header_size (clear_record m c)) ∙ drop_at c (replicate (longest - length c) 0) (places m) C.size

  clear-asked : record_asked (clear_record m c) ≡ (Ok tt)
  unfolding asked_in
  clear-asked =
      simp (
        eq-eqb _ _ clear-size,
        h,
        leb-zero (allowed_in erasure_bytes (clear_record m c)),
        clear-tail,
        all-zeros (longest - length c),
      )

  clear-symbols : drop header_size (clear_record m c)
      ≡ word_of (clear_record m c) ++ replicate (longest - length (word_of (clear_record m c))) 0
  clear-symbols = sym (ap (λ (w : List ℕ). w ++ replicate (longest - length w) 0) clear-word)

  module _ (reach : ℕ) (l : reach ≤ radius m 0) where
    clear-restored : (within_of m (word_of (clear_record m c)) [] reach ≡ accepted 0)
        × (within_written m (word_of (clear_record m c)) [] reach ≡ c)
    clear-restored = rw clear-word (codeword-stays m h c C reach l)

    pub clear-accepted : record_within_of (clear_record m c) reach ≡ accepted 0
    unfolding record_within_of
    clear-accepted = rw clear-asked clear-restored.0

    pub clear_stays : record_within_written (clear_record m c) reach ≡ clear_record m c
    unfolding record_within_written
    clear_stays = rw clear-accepted (ap (clear_record m) clear-restored.1)

-- ---- an accepted record, and a refused one

pub accepted-means : (v : Verdict) (o : Outcome) (k : ℕ) → after v o ≡ accepted k → (v ≡ (Ok tt)) × (o ≡ accepted k)
accepted-means (Ok tt) o k e = (refl, e)
accepted-means (Err q) o k e = let z : ◌≡◌ {A = ℕ} 0 1 = cc in absurd (omega arith)

module _ (r : List ℕ) (reach k : ℕ) (e : record_within_of r reach ≡ accepted k) where
  -- the word that restoring finds
  abbrev found : List ℕ
  found = within_written (width_of r) (word_of r) (erasures_of r) reach

  means : (record_asked r ≡ (Ok tt)) × (within_of (width_of r) (word_of r) (erasures_of r) reach ≡ accepted k)
  unfolding record_within_of
  means = accepted-means (record_asked r) (within_of (width_of r) (word_of r) (erasures_of r) reach) k e

  pub accepted-asked : Asked r
  accepted-asked = asked r means.0

  found-codeword : Codeword (width_of r) found
  found-codeword = ((accepts (width_of r) (word_of r) (erasures_of r) reach k found).0 (means.1, refl)).1.near.codeword

  pub written-clear : record_within_written r reach ≡ clear_record (width_of r) found
  unfolding record_within_written
  written-clear = ap (λ (o : Outcome). on_accept o r (clear_record (width_of r) found)) e

  accepted-size : length (record_within_written r reach) ≡ length r
  accepted-size =
      ap length written-clear ∙ clear-size (width_of r) accepted-asked.width found found-codeword ∙ sym accepted-asked.size

  -- what is restored is accepted with 0 changed, and restores to itself
  pub within-again : (again : ℕ) → again ≤ radius (width_of r) 0
      → (record_within_of (record_within_written r reach) again ≡ accepted 0)
      × (record_within_written (record_within_written r reach) again ≡ record_within_written r reach)
  within-again again l =
      rw written-clear (
        clear-accepted (width_of r) accepted-asked.width found found-codeword again l,
        clear_stays (width_of r) accepted-asked.width found found-codeword again l,
      )

  -- it has no erasures, so that who names no reach gets the longest of its width
  pub again-reach : reach_of (record_within_written r reach) ≡ radius (width_of r) 0
  again-reach = ap reach_of written-clear

  -- behind its header stand the symbols of its word, and zeros behind them
  pub within-symbols : drop header_size (record_within_written r reach)
      ≡ word_of (record_within_written r reach) ++ replicate (longest - length (word_of (record_within_written r reach))) 0
  within-symbols = rw written-clear (clear-symbols (width_of r) accepted-asked.width found found-codeword)

pub within-stays : (r : List ℕ) (reach n : ℕ) → record_within_of r reach ≡ refused n → record_within_written r reach ≡ r
unfolding record_within_written
within-stays r reach n e =
    ap (λ (o : Outcome). on_accept o r (clear_record (width_of r) (within_written (width_of r) (word_of r) (erasures_of r) reach))) e

-- restoring keeps the length
pub within-size : (r : List ℕ) (reach : ℕ) → length (record_within_written r reach) ≡ length r
within-size r reach = go (record_within_of r reach) refl
  where
    go : (o : Outcome) → record_within_of r reach ≡ o → length (record_within_written r reach) ≡ length r
    go (accepted k) e = accepted-size r reach k e
    go (refused n) e = ap length (within-stays r reach n e)

-- ---- who names no reach

module _ (r : List ℕ) (k : ℕ) (e : record_of r ≡ accepted k) where
  pub accepted-whole : length r ≡ record_size
  unfolding record_of
  accepted-whole = (accepted-asked r (reach_of r) k e).size

  pub restored-again : (record_of (record_written r) ≡ accepted 0) × (record_written (record_written r) ≡ record_written r)
  unfolding record_of record_written
  restored-again =
      rw (again-reach r (reach_of r) k e) (within-again r (reach_of r) k e (radius (width_of r) 0) (le_refl (radius (width_of r) 0)))

  pub restored-symbols : drop header_size (record_written r)
      ≡ word_of (record_written r) ++ replicate (longest - length (word_of (record_written r))) 0
  unfolding record_of record_written
  restored-symbols = within-symbols r (reach_of r) k e

pub refused-stays : (r : List ℕ) (n : ℕ) → record_of r ≡ refused n → record_written r ≡ r
unfolding record_of record_written
refused-stays r n e = within-stays r (reach_of r) n e

pub written-size : (r : List ℕ) → length (record_written r) ≡ length r
unfolding record_written
written-size r = within-size r (reach_of r)

-- restoring a second time changes nothing
pub written-again : (r : List ℕ) → record_written (record_written r) ≡ record_written r
written-again r = go (record_of r) refl
  where
    go : (o : Outcome) → record_of r ≡ o → record_written (record_written r) ≡ record_written r
    go (accepted k) e = (restored-again r k e).1
    go (refused n) e = ap record_written (refused-stays r n e)
