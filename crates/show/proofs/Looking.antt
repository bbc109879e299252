-- The text of a look, part by part. Assumes nothing.
use Rattle.std.proofs.Common.{Ok, Err, Result}
use Rattle.field.proofs.Base.{◌≡◌, refl, sym, ap, ap₂, ◌∙◌, Bool, true, false, List, [], ◌∷◌, ◌++◌, ℕ, ◌+◌, ◌-◌, min, arith}
use Rattle.field.proofs.Base.{ne_eqb, take, drop}
use Rattle.field.specs.Question.{Verdict, Outcome, is_width}
use Rattle.field.specs.declared.Question.{Question}
use Rattle.field.specs.declared.Question.TheVariants.{Width}
use Rattle.code.specs.Call.{done, shown, restore_asked, displayed, syndromes_shown, repair}
use Rattle.code.specs.Erasure.{syndromes_without}
use Rattle.code.specs.Word.{word_length}
use Rattle.code.proofs.Lengths.{length-is}
use Rattle.card.specs.Record.{erasure_bytes, width_of, count_of, word_of, record_of, copy_written, copy_changes, copy_bytes, RestoresCopy}
use Rattle.card.specs.Listing.{bytes_of, newline}
use Rattle.card.specs.Slots.{is_blank}
use Rattle.card.specs.inner.Parts.{header_size}
use Rattle.card.specs.declared.RestoredCopy.{RestoredCopy}
use Rattle.report.specs.Day.{day_of}
use Rattle.show.specs.Text.{labelled}
use Rattle.show.specs.Look.{listed, named_erasures, syndromes_line, syndromes_text, place_line, place_lines, day_text, restoring_text, look_text}

-- ---- the record as it stands

-- the erasures, from byte 2 on
pub erasures-part : (r : List ℕ) (n : ℕ) → n ≡ min erasure_bytes (count_of r) → take (2 + n - 2) (drop 2 r) ≡ named_erasures r
erasures-part r n e = ap (λ (k : ℕ). take k (drop 2 r)) back
  where
    back : 2 + n - 2 ≡ min erasure_bytes (count_of r)
    back = omega (arith, e)

-- without a width nothing else is asked
width-asked : (m : ℕ) (w es : List ℕ) → is_width m ≡ false → restore_asked m w es ≡ Err Width
unfolding restore_asked
width-asked m w es e = rw e

-- the word, whose length is 0 where there is no width
shows-word : (r es : List ℕ) (n : ℕ) → n ≡ word_length (width_of r)
    → syndromes_shown (width_of r) (take (header_size + n - header_size) (drop header_size r)) es ≡ syndromes_shown (width_of r) (word_of r) es
shows-word r es n en = go (is_width (width_of r)) refl
  where
    go : (b : Bool) → is_width (width_of r) ≡ b
        → syndromes_shown (width_of r) (take (header_size + n - header_size) (drop header_size r)) es ≡ syndromes_shown (width_of r) (word_of r) es
    go true w =
        let back : header_size + n - header_size ≡ n = omega arith in
        ap (λ (l : List ℕ). syndromes_shown (width_of r) l es)
        (ap (λ (k : ℕ). take k (drop header_size r)) (back ∙ length-is (width_of r) n en w))
    go false w =
        let part = take (header_size + n - header_size) (drop header_size r) in
        ap (λ (v : Verdict). displayed v (syndromes_without (width_of r) es part)) (width-asked (width_of r) part es w)
        ∙ sym (ap (λ (v : Verdict). displayed v (syndromes_without (width_of r) es (word_of r))) (width-asked (width_of r) (word_of r) es w))

-- the line of what was answered
abbrev pub told_line : Result (List ℕ) Question → List ℕ
told_line (Ok sums) = bytes_of "syndromes" ++ listed sums
told_line (Err q) = []

line-told : (v : Verdict) (sums : List ℕ) → told_line (displayed v sums) ≡ syndromes_line (done v) (shown v sums)
line-told (Ok tt) sums = refl
line-told (Err q) sums = refl

pub syndromes-told : (r : List ℕ) (k n : ℕ) (x : Result (List ℕ) Question) → k ≡ min erasure_bytes (count_of r) → n ≡ word_length (width_of r)
    → x ≡ syndromes_shown (width_of r) (take (header_size + n - header_size) (drop header_size r)) (take (2 + k - 2) (drop 2 r))
    → told_line x ≡ syndromes_text r
unfolding syndromes_text
syndromes-told r k n x ek en e =
    let all = e
    ∙ ap (syndromes_shown (width_of r) (take (header_size + n - header_size) (drop header_size r))) (erasures-part r k ek)
    ∙ shows-word r (named_erasures r) n en in
    ap told_line all ∙ line-told (restore_asked (width_of r) (word_of r) (named_erasures r)) (syndromes_without (width_of r) (named_erasures r) (word_of r))

-- ---- what restoring makes of it

pub place-other : (p a b : ℕ) → (a ≡ b → ⊥)
    → place_line p a b ≡ labelled (bytes_of "place ") p ++ (labelled (bytes_of ": ") a ++ (labelled (bytes_of " -> ") b ++ newline ∷ []))
unfolding place_line
place-other p a b n = rw (ne_eqb a b n)

pub restoring-done : (n : ℕ) (r : List ℕ) (x : Result RestoredCopy Question) → RestoresCopy r x → (y : RestoredCopy) → x ≡ Ok y
    → restoring_text n (record_of r) r (copy_written r) (day_of r)
    ≡ labelled (bytes_of "accepted, wrong symbols changed: ") y.changed
    ++ (bytes_of "\n" ++ (place_lines r y.bytes ++ day_text (day_of r)))
restoring-done n r x C y e =
    ap₂ (λ (o : Outcome) (new : List ℕ). restoring_text n o r new (day_of r))
    (sym C.answer ∙ ap (λ (z : Result RestoredCopy Question). repair (copy_changes z)) e)
    (sym C.content ∙ ap copy_bytes e)

-- ---- the whole text

pub look-blank : (n : ℕ) (slot : List ℕ) → is_blank slot ≡ true → look_text n slot ≡ labelled (bytes_of "record ") n ++ (newline ∷ bytes_of "blank\n")
unfolding look_text
look-blank n slot b = rw b refl
