-- A text of day sheets taken part by part. Assumes nothing.
use Rattle.field.proofs.Base.{◌≡◌, refl, sym, ap, ◌∙◌, Bool, true, false, ◌&&◌, ◌||◌, false≢true, List, [], ◌++◌, append_assoc, append-nil, ℕ, ◌+◌}
use Rattle.field.proofs.Base.{◌-◌, ◌*◌, ◌^◌, ◌≤◌, arith, ltb, length, take, drop, length-append, length-drop, length-take-le, drop_at}
use Rattle.std.proofs.Common.{Ok, Err}
use Rattle.std.specs.List.{copy_within}
use Rattle.std.proofs.lemmas.List.{drop-take}
use Rattle.std.proofs.lemmas.List.Edits.{take-paste}
use borrow.Rule.Slice.PartMut.{put_mid, same_len_mid, take_put}
use lib.Seq.{take-add}
use Rattle.card.specs.Text.{Written}
use Rattle.card_csv.specs.declared.Made.{Made}
use Rattle.card_csv.specs.declared.TextState.{TextState}
use Rattle.card_csv.specs.Making.{TextVerdict, is_fine, is_complete, text_begun, lines_read, lines_made, lines_from, last_line, MakesRecords}
use Rattle.card_csv.specs.Making.{MakesLast}
use Rattle.card_csv.specs.inner.Room.{text_size, records_room}
use Rattle.card_csv.proofs.LinesMade.{read-on, made-on, read_stays, made-stays}
use Rattle.field.proofs.Ask.{and-true-left, and-true-right}
use Rattle.programs.specs.declared.input.Input.{Input}
use Rattle.programs.specs.declared.output.Output.{Output}
use Rattle.programs.specs.declared.intake.Taken.{Taken}
use Rattle.programs.specs.Stream.{has_ended, unread, unwritten, Reads, Wrote}
use Rattle.programs.specs.Write.{PartOfCard, is_refused, is_settled, TakesText, all_taken, CardWritten}
use Rattle.programs.specs.inner.Turns.{CanRead, CanWrite}
use Rattle.programs.specs.inner.Cuts.{ReadsOn, goes_further, is_open, TakesParts, refused_long}

-- ---- moved to the front

-- the bytes from `from` up to `end` stand at the front of the buffer
front_moved : (old : List ℕ) (from end : ℕ) → from ≤ end → end ≤ length old → take (end - from) (copy_within old from end 0) ≡ drop from (take end old)
front_moved old from end h l =
    ap (λ (n : ℕ). take n (copy_within old from end 0)) (omega arith)
    ∙ take-paste old 0 (drop from old) (end - from) (omega (arith, l)) (omega (arith, length-drop from old, h, l))
    ∙ sym (drop-take from (end - from) old)
    ∙ ap (λ (n : ℕ). drop from (take n old)) (omega (arith, h))

-- ---- read behind what is kept

pub reads_on : {i j : Input} {new : List ℕ} (kept : ℕ) (buf : List ℕ) → length buf ≡ text_size → kept ≤ text_size
    → Reads i (take (length buf - kept) (drop kept buf)) j new → ReadsOn i kept buf j (put_mid kept (length buf - kept) buf new)
reads_on {i} {j} {new} kept buf l h R =
    let room : length new ≡ text_size - kept =
    R.size
    ∙ length-take-le (length buf - kept) (drop kept buf) (omega (arith, length-drop kept buf))
    ∙ ap (λ (n : ℕ). n - kept) l in
    record {
      size = same_len_mid kept (length buf - kept) buf new R.size ∙ l;
      same = take_put kept (length buf - kept) buf new (omega (arith, h, l));
      fits = omega (arith, R.most, room, h);
      total = R.total;
      well = R.well;
    }

-- ---- a part

module _ {write : Bool} {t : Taken} {buf : List ℕ} (P : TakesParts write (2 ^ 55) (2 ^ 62) t buf) where
  pub parts-few : t.state.lines ≤ 2 ^ 56
  parts-few = omega (arith, P.few, P.read)

  module _ (g : goes_further t ≡ true) where
    pub parts-fine : is_fine t.state.verdict ≡ true
    parts-fine = and-true-left (is_fine t.state.verdict) t.output.ok g

    pub parts-ok : t.output.ok ≡ true
    parts-ok = and-true-right (is_fine t.state.verdict) t.output.ok g

    -- the records of more lines
    module _ (more : List (List ℕ)) {recs : List ℕ} (l : length recs ≤ records_room) (R : recs ≡ lines_made t.state more) where
      parts-made : recs ≡ lines_made (lines_read text_begun P.lines) more
      parts-made = R ∙ ap (λ (s : TextState). lines_made s more) P.state

      pub parts-part : write ≡ true → CanWrite t.output (length recs) × PartOfCard t.output recs
      parts-part w = (
        record { ok = parts-ok; small = omega (arith, l, P.small w parts-ok) },
        record {
          lines = P.lines ++ more;
          content = parts-made
              ∙ sym (ap (drop t.output.written) (made-on text_begun P.lines more)
              ∙ drop_at (lines_made text_begun P.lines) (lines_made (lines_read text_begun P.lines) more) t.output.written
              (sym (P.written w parts-ok)));
        },
      )

      pub parts-written : (o : Output) → (write ≡ true → Wrote t.output (length recs) o) → write ≡ true → o.ok ≡ true
          → o.written ≡ length (lines_made text_begun (P.lines ++ more))
      parts-written o W w p =
          omega (
            arith,
            W w p,
            P.written w parts-ok,
            ap length parts-made,
            ap length (made-on text_begun P.lines more),
            length-append (lines_made text_begun P.lines) (lines_made (lines_read text_begun P.lines) more),
          )

  module _ (g : is_open t ≡ true) where
    pub part-going : t.input.going ≡ true
    part-going = and-true-left t.input.going (goes_further t) (and-true-right (ltb t.kept text_size) (t.input.going && goes_further t) g)

    pub part-further : goes_further t ≡ true
    part-further = and-true-right t.input.going (goes_further t) (and-true-right (ltb t.kept text_size) (t.input.going && goes_further t) g)

    pub part-readable : CanRead t.input
    part-readable = record { going = part-going; well = P.well part-going; small = omega (arith, P.read) }

    module _ {j : Input} {new : List ℕ} (R : ReadsOn t.input t.kept buf j new) {k : ℕ} (e : k ≡ j.count) where
      pub part-size : length (take (t.kept + k) new) ≡ t.kept + k
      part-size = length-take-le (t.kept + k) new (omega (arith, R.fits, e, R.size))

      abbrev came : List ℕ
      came = take k (drop t.kept new)

      came-size : length came ≡ k
      came-size = length-take-le k (drop t.kept new) (omega (arith, length-drop t.kept new, R.fits, e, R.size))

      part-whole : take (t.kept + k) new ≡ take t.kept buf ++ came
      part-whole = take-add t.kept k new ∙ ap (λ (xs : List ℕ). xs ++ came) R.same

      module _ {m : Made} {old made : Written} (M : MakesRecords (take (t.kept + k) new) t.state old m made) where
        pub part-rest : m.taken ≤ t.kept + k
        part-rest = omega (arith, M.inside, part-size)

        module _ {moved : List ℕ} (F : moved ≡ copy_within new m.taken (t.kept + k) 0) where
          at-front : take (t.kept + k - m.taken) moved ≡ drop m.taken (take (t.kept + k) new)
          at-front =
              ap (take (t.kept + k - m.taken)) F ∙ front_moved new m.taken (t.kept + k) part-rest (omega (arith, R.fits, e, R.size))

          part_cut : (more : List ℕ)
              → lines_from [] ((P.text ++ came) ++ more) ≡ (P.lines ++ M.lines) ++ lines_from [] (take (t.kept + k - m.taken) moved ++ more)
          part_cut more =
              ap (lines_from []) (append_assoc P.text came more)
              ∙ P.cut (came ++ more)
              ∙ ap (λ (xs : List ℕ). P.lines ++ lines_from [] xs) (sym (append_assoc (take t.kept buf) came more))
              ∙ ap (λ (xs : List ℕ). P.lines ++ lines_from [] (xs ++ more)) (sym part-whole)
              ∙ ap (λ (ls : List (List ℕ)). P.lines ++ ls) (M.cut more)
              ∙ sym (append_assoc P.lines M.lines (lines_from [] (drop m.taken (take (t.kept + k) new) ++ more)))
              ∙ ap (λ (xs : List ℕ). (P.lines ++ M.lines) ++ lines_from [] (xs ++ more)) (sym at-front)

          pub part-taken : {o : Output} {recs : List ℕ} → length moved ≡ text_size → length recs ≤ records_room → recs ≡ lines_made t.state M.lines
              → (write ≡ true → Wrote t.output (length recs) o)
              → TakesParts write (t.input.read + text_size) (t.output.written + records_room)
              (record { state = m.state; input = j; output = o; kept = t.kept + k - m.taken }) moved
          part-taken {o} {recs} size l S W =
              record {
                text = P.text ++ came;
                lines = P.lines ++ M.lines;
                size = omega (arith, R.total, P.size, length-append P.text came, came-size, e);
                cut = part_cut;
                state = M.state ∙ ap (λ (s : TextState). lines_read s M.lines) P.state ∙ sym (read-on text_begun P.lines M.lines);
                last = λ f. ap (lines_from []) at-front ∙ M.all f ∙ ap last_line (sym at-front);
                written = parts-written part-further M.lines l S o W;
                well = R.well;
                buffer = size;
                kept = omega (arith, R.fits, e);
                few = omega (arith, M.few, part-rest, P.few, R.total, e);
                read = omega (arith, R.total, R.fits);
                small = λ w p. omega (arith, W w p, l);
              }

-- ---- part by part

pub parts-start : (write : Bool) {o : Output} {i : Input} {buf : List ℕ} → o ≡ unwritten → i ≡ unread → length buf ≡ text_size
    → TakesParts write 0 0 (record { state = record { full = false; lines = 0; verdict = Ok tt }; input = i; output = o; kept = 0 }) buf
unfolding lines_from lines_read lines_made
parts-start write {o} {i} {buf} e f l =
    record {
      text = [];
      lines = [];
      size = ap (λ (x : Input). x.read) f;
      cut = λ more. refl;
      state = refl;
      last = λ t. refl;
      written = λ w p. ap (λ (x : Output). x.written) e;
      well = λ g. ap (λ (x : Input). x.failed) f;
      buffer = l;
      kept = omega arith;
      few = omega arith;
      read = omega (arith, ap (λ (x : Input). x.read) f);
      small = λ w p. omega (arith, ap (λ (x : Output). x.written) e);
    }

-- other bounds
pub parts_within : {write : Bool} {most room n m : ℕ} {t : Taken} {buf : List ℕ} → TakesParts write most room t buf → t.input.read ≤ n
    → (write ≡ true → t.output.ok ≡ true → t.output.written ≤ m) → TakesParts write n m t buf
parts_within P h s =
    record {
      text = P.text;
      lines = P.lines;
      size = P.size;
      cut = P.cut;
      state = P.state;
      last = P.last;
      written = P.written;
      well = P.well;
      buffer = P.buffer;
      kept = P.kept;
      few = P.few;
      read = h;
      small = s;
    }

module _ {write : Bool} {i : ℕ} {t : Taken} {buf : List ℕ} (P : TakesParts write (i * text_size) (i * records_room) t buf) where
  pub parts-ready : i ≤ 2 ^ 42 → TakesParts write (2 ^ 55) (2 ^ 62) t buf
  parts-ready h = parts_within P (omega (arith, P.read, h)) (λ w p. omega (arith, P.small w p, h))

  pub parts_more : {u : Taken} {new : List ℕ} → i ≤ 2 ^ 42 → is_open t ≡ true
      → TakesParts write (t.input.read + text_size) (t.output.written + records_room) u new
      → TakesParts write ((i + 1) * text_size) ((i + 1) * records_room) u new
  parts_more h g Q =
      let ok : t.output.ok ≡ true = parts-ok (parts-ready h) (part-further (parts-ready h) g) in
      parts_within Q (omega (arith, Q.read, P.read)) (λ w p. omega (arith, Q.small w p, P.small w ok))

-- ---- behind the last part

fine-unrefused : (v : TextVerdict) → is_fine v ≡ true → is_refused v ≡ false
fine-unrefused (Ok tt) e = refl
fine-unrefused (Err f) e = absurd (false≢true e)

-- a text that goes on is not settled
unsettled : (t : Taken) → is_refused t.state.verdict ≡ false → (has_ended t.input && t.output.ok) ≡ false → is_settled t ≡ true → ⊥
unsettled t r e s = false≢true (sym (ap (λ (b : Bool). b || (has_ended t.input && t.output.ok)) r ∙ e) ∙ s)

module _ {write : Bool} {t : Taken} {buf : List ℕ} (P : TakesParts write (2 ^ 55) (2 ^ 62) t buf) where
  text-lines : lines_from [] P.text ≡ P.lines ++ lines_from [] (take t.kept buf)
  text-lines =
      ap (lines_from []) (sym (append-nil P.text))
      ∙ P.cut []
      ∙ ap (λ (xs : List ℕ). P.lines ++ lines_from [] xs) (append-nil (take t.kept buf))

  -- not settled: the text may go on, or a write failed
  open-rest : (r : Taken) → r.input ≡ t.input → (is_settled r ≡ true → ⊥) → TakesText write r
  open-rest r e n =
      record {
        text = P.text;
        size = ap (λ (i : Input). i.read) e ∙ P.size;
        state = λ s. absurd (n s);
        written = λ s. absurd (n s);
      }

  refused-rest : is_fine t.state.verdict ≡ false → TakesText write t
  refused-rest not-fine =
      let s = lines_read text_begun P.lines in
      let stays : is_fine s.verdict ≡ false = ap (λ (u : TextState). is_fine u.verdict) (sym P.state) ∙ not-fine in
      let rest = lines_from [] (take t.kept buf) in
      record {
        text = P.text;
        size = P.size;
        state = λ d.
            P.state
            ∙ sym (read_stays s stays rest)
            ∙ sym (read-on text_begun P.lines rest)
            ∙ ap (lines_read text_begun) (sym text-lines);
        written = λ d w p.
            omega (
              arith,
              P.written w p,
              ap (λ (ls : List (List ℕ)). length (lines_made text_begun ls)) text-lines,
              ap length (made-on text_begun P.lines rest),
              length-append (lines_made text_begun P.lines) (lines_made s rest),
              ap length (made-stays s stays rest),
            );
      }

  pub rest-stopped : goes_further t ≡ false → TakesText write t
  rest-stopped g = go (is_fine t.state.verdict) refl t.output.ok refl g
    where
      go : (a : Bool) → is_fine t.state.verdict ≡ a → (b : Bool) → t.output.ok ≡ b → (a && b) ≡ false → TakesText write t
      go false e b f h = refused-rest e
      go true e true f h = absurd (false≢true (sym h))
      go true e false f h = open-rest t refl (unsettled t (fine-unrefused t.state.verdict e) (failed (has_ended t.input) f))
        where
          failed : (x : Bool) → t.output.ok ≡ false → (x && t.output.ok) ≡ false
          failed true p = p
          failed false p = refl

  pub rest-long : has_ended t.input ≡ false → TakesText write (refused_long t)
  rest-long n = open-rest (refused_long t) refl (unsettled (refused_long t) refl (ap (λ (b : Bool). b && t.output.ok) n))

  pub rest-open : goes_further t ≡ true → has_ended t.input ≡ false → TakesText write t
  rest-open g n = open-rest t refl (unsettled t (fine-unrefused t.state.verdict (parts-fine P g)) (ap (λ (b : Bool). b && t.output.ok) n))

  module _ (g : goes_further t ≡ true) {m : Made} {old made : Written} (M : MakesLast (take t.kept buf) t.state old m made) where
    last-lines : lines_from [] P.text ≡ P.lines ++ last_line (take t.kept buf)
    last-lines = text-lines ∙ ap (λ (ls : List (List ℕ)). P.lines ++ ls) (P.last (parts-fine P g))

    pub rest-last : {o : Output} {recs : List ℕ} → length recs ≤ records_room → recs ≡ lines_made t.state (last_line (take t.kept buf))
        → (write ≡ true → Wrote t.output (length recs) o)
        → TakesText write (record { state = m.state; input = t.input; output = o; kept = 0 })
    rest-last {o} {recs} l S W =
        record {
          text = P.text;
          size = P.size;
          state = λ d.
              M.state
              ∙ ap (λ (s : TextState). lines_read s (last_line (take t.kept buf))) P.state
              ∙ sym (read-on text_begun P.lines (last_line (take t.kept buf)))
              ∙ ap (lines_read text_begun) (sym last-lines);
          written = λ d w p.
              parts-written P g (last_line (take t.kept buf)) l S o W w p ∙ ap (λ (ls : List (List ℕ)). length (lines_made text_begun ls)) (sym last-lines);
        }

-- ---- the end

module _ (t : Taken) where
  pub accepted-unended : has_ended t.input ≡ false → false ≡ all_taken t
  accepted-unended n = sym (ap (λ (b : Bool). b && (is_complete t.state && t.output.ok)) n)

  module _ (e : has_ended t.input ≡ true) where
    pub accepted-asked : ltb 0 t.state.lines ≡ true → {r : Bool} → r ≡ goes_further t → r ≡ all_taken t
    accepted-asked l g = g ∙ sym (rw (e, l) refl)

    pub accepted-empty : ltb 0 t.state.lines ≡ false → ltb 0 t.state.lines ≡ all_taken t
    accepted-empty l = l ∙ sym (rw (e, l) refl)

module _ (t : Taken) (a : all_taken t ≡ true) where
  pub accepted-ended : has_ended t.input ≡ true
  accepted-ended = and-true-left (has_ended t.input) (is_complete t.state && t.output.ok) a

  accepted-rest : (is_complete t.state && t.output.ok) ≡ true
  accepted-rest = and-true-right (has_ended t.input) (is_complete t.state && t.output.ok) a

  pub accepted-written : t.output.ok ≡ true
  accepted-written = and-true-right (is_complete t.state) t.output.ok accepted-rest

  settled : is_settled t ≡ true
  settled = go (is_refused t.state.verdict) (has_ended t.input) accepted-ended t.output.ok accepted-written
    where
      go : (x y : Bool) → y ≡ true → (z : Bool) → z ≡ true → (x || (y && z)) ≡ true
      go true y e z f = refl
      go false true e true f = refl
      go false true e false f = f
      go false false e z f = e

  pub card-written : TakesText true t → CardWritten t
  card-written T =
      record {
        text = T.text;
        size = T.size;
        accepted = ap is_complete (sym (T.state settled)) ∙ and-true-left (is_complete t.state) t.output.ok accepted-rest;
        written = T.written settled refl accepted-written;
      }
