-- What `cardconvert` promises. k is the number of erasure bytes of a record of the card, 4 or 5. Assumes nothing.
use Rattle.std.specs.Prelude.{Result, Ok, is_ok}
use Rattle.std.specs.Prelude.{◌≡◌, true, List, ◌⊎◌, ℕ, ◌+◌, ◌-◌, ◌*◌, ◌%◌, ◌≤◌, length}
use Rattle.card.specs.Record.{size_of, erasure_bytes}
use Rattle.card.specs.Conversion.{old_erasure_bytes, converted_card}
use Rattle.card.specs.Batch.{batch_records, most_batches}
use Rattle.card.specs.Findings.{nothing_found, part_found, found_verdict}
use Rattle.programs.specs.declared.cardconvert.Inquiry.{Inquiry}
use Rattle.programs.specs.declared.cardconvert.Copying.{Copying}
use Rattle.programs.specs.declared.status.Status.{Status}
use Rattle.programs.specs.declared.status.Status.TheVariants.{Done, NotDone}
use Rattle.programs.specs.Stream.{has_ended}

-- the other edition's
abbrev pub other_edition : ℕ → ℕ
other_edition k = old_erasure_bytes + erasure_bytes - k

-- the first reading: some card, as long as what was read, was asked, and behind its slots so many bytes are left;
-- it has at most so many batches
pub record AsksCard (k : ℕ) (r : Inquiry) : Type 0 where
  pub card : List ℕ
  pub read : r.input.read ≡ length card
  pub findings : r.findings ≡ part_found k nothing_found card
  pub left : r.rest ≡ length card % size_of k
  pub most : length card ≤ most_batches * (batch_records * size_of k)

-- all of it was read, and no question refuses it
pub record Accepted (k : ℕ) (r : Inquiry) : Type 0 where
  pub asks : AsksCard k r
  pub ended : has_ended r.input ≡ true
  pub passed : found_verdict r.findings r.rest ≡ (Ok tt)

-- some bytes are the conversion of a card
pub record Converted (k : ℕ) (bytes : List ℕ) : Type 0 where
  pub card : List ℕ
  pub is : bytes ≡ converted_card k (other_edition k) card

-- the second reading, where it came to its end: so many slots were read, and so many of the other edition written, and the input ended behind
-- them
pub record CopiesCard (k slots : ℕ) (c : Copying) : Type 0 where
  pub ended : has_ended c.input ≡ true
  pub read : c.input.read ≡ slots * size_of k
  pub ok : c.output.ok ≡ true
  pub written : c.output.written ≡ slots * size_of (other_edition k)

-- 0 only where the second reading came to its end
abbrev pub EndsConverting : Result Copying Copying → Status → Type 0
EndsConverting c r = ((is_ok c ≡ true) × (r ≡ Done)) ⊎ (r ≡ NotDone)
