-- A text in parts: the lines of a part taken one by one, and the last line. Assumes nothing.
use Rattle.field.proofs.Base.{◌≡◌, refl, sym, ap, subst, ◌∙◌, true, false, false≢true, List, [], ◌∷◌, ◌++◌, append_assoc, append-nil, ℕ, ◌+◌, ◌*◌, ◌≤◌}
use Rattle.field.proofs.Base.{◌<◌, arith, length, take, drop, length-append, length-drop, length-take-le, drop-drop}
use Rattle.card.specs.Record.{record_size}
use Rattle.card.specs.Text.{Written, Appends}
use Rattle.card.proofs.Writing.{appends-none, appends-as, appends-on}
use Rattle.card_csv.specs.declared.TextState.{TextState}
use Rattle.card_csv.specs.declared.Made.{Made}
use Rattle.card_csv.specs.Making.{last_line, lines_from, is_fine, line_read, lines_read, line_made, lines_made}
use Rattle.card_csv.specs.inner.Room.{text_size, records_room}
use Rattle.card_csv.specs.Making.{MakesRecords, MakesLast}
use Rattle.card_csv.specs.inner.Taking.{shortest_line, EndsLine, HasRoom}
use Rattle.card_csv.proofs.LinesMade.{read-on, made-on}
use Rattle.card_csv.proofs.Taking.{made_of, line-counted}

-- ---- one line

read_one : (s : TextState) (line : List ℕ) → line_read s line ≡ lines_read s (line ∷ [])
unfolding lines_read
read_one s line = refl

made_one : (s : TextState) (line : List ℕ) → line_made s line ≡ lines_made s (line ∷ [])
unfolding lines_made
made_one s line = sym (append-nil (line_made s line))

-- ---- the last line

pub last_none : (line : List ℕ) → length line ≡ 0 → (s : TextState) (old : Written) → MakesLast line s old (record { state = s; taken = 0 }) old
unfolding lines_read lines_made
last_none [] h s old = record { state = refl; taken = refl; records = appends-none old }
last_none (x ∷ xs) h s old = absurd (omega arith)

pub last_taken : (line : List ℕ) → (length line ≡ 0 → ⊥) → (s : TextState) {old new : Written} {u : TextState} → u ≡ line_read s line
    → Appends old (line_made s line) new → MakesLast line s old (record { state = u; taken = length line }) new
last_taken [] h s e w = absurd (h refl)
last_taken (x ∷ xs) h s e w = record { state = e ∙ read_one s (x ∷ xs); taken = refl; records = appends-as (made_one s (x ∷ xs)) w }

-- ---- the lines of a part

-- lines were taken, so many of them sheets
pub record Making (text : List ℕ) (s : TextState) (old : Written) (done : Made) (new : Written) : Type 0 where
  pub lines : List (List ℕ)
  pub cut : (more : List ℕ) → lines_from [] (text ++ more) ≡ lines ++ lines_from [] (drop done.taken text ++ more)
  pub state : done.state ≡ lines_read s lines
  pub records : Appends old (lines_made s lines) new
  pub inside : done.taken ≤ length text
  pub few : done.state.lines ≤ s.lines + done.taken
  pub sheets : ℕ
  pub whole : length (lines_made s lines) ≡ sheets * record_size
  pub least : sheets * (shortest_line + 1) ≤ done.taken

pub making-start : (text : List ℕ) (s : TextState) (old : Written) → Making text s old (record { state = s; taken = 0 }) old
unfolding lines_read lines_made
making-start text s old =
    record {
      lines = [];
      cut = λ more. refl;
      state = refl;
      records = appends-none old;
      inside = omega arith;
      few = omega arith;
      sheets = 0;
      whole = omega arith;
      least = omega arith;
    }

module _ {text : List ℕ} {s : TextState} {old : Written} {done : Made} {new : Written} (M : Making text s old done new) where
  -- the rest of the text
  module _ {rest : List ℕ} (er : rest ≡ drop done.taken text) where
    pub making-end : is_fine done.state.verdict ≡ true → lines_from [] rest ≡ last_line rest → MakesRecords text s old done new
    making-end fine none =
        record {
          lines = M.lines;
          cut = M.cut;
          state = M.state;
          records = M.records;
          inside = M.inside;
          few = M.few;
          all = λ yes. subst (λ (xs : List ℕ). lines_from [] xs ≡ last_line xs) er none;
          stop = λ no. absurd (false≢true (sym no ∙ fine));
        }

    -- its first line has n bytes
    module _ {n : ℕ} (E : EndsLine rest n) where
      abbrev line : List ℕ
      line = take n rest

      long : length line ≡ n
      long = length-take-le n rest (omega (arith, E.inside))

      inside_text : done.taken + n < length text
      inside_text = omega (arith, E.inside, ap length er, length-drop done.taken text)

      pub making-room : length text ≤ text_size → records_room ≤ old.room → HasRoom line new.room
      making-room small room l = omega (arith, M.records.room, long, l, M.whole, M.least, inside_text, small, room)

      pub rest-is : drop (n + 1) rest ≡ drop (done.taken + n + 1) text
      rest-is =
          let place : done.taken + (n + 1) ≡ done.taken + n + 1 = omega arith in
          ap (drop (n + 1)) er ∙ drop-drop (n + 1) done.taken text ∙ ap (λ (m : ℕ). drop m text) place

      -- next is how the text stands behind the line
      module _ {next : TextState} {last : Written} (en : next ≡ line_read done.state line) (w : Appends new (line_made done.state line) last) where
        abbrev behind : Made
        behind = record { state = next; taken = done.taken + n + 1 }

        lines_cut : (more : List ℕ) → lines_from [] (text ++ more) ≡ (M.lines ++ (line ∷ [])) ++ lines_from [] (drop behind.taken text ++ more)
        lines_cut more =
            M.cut more
            ∙ ap (λ (xs : List ℕ). M.lines ++ lines_from [] (xs ++ more)) (sym er)
            ∙ ap (λ (ls : List (List ℕ)). M.lines ++ ls) (E.cut more)
            ∙ sym (append_assoc M.lines (line ∷ []) (lines_from [] (drop (n + 1) rest ++ more)))
            ∙ ap (λ (xs : List ℕ). (M.lines ++ (line ∷ [])) ++ lines_from [] (xs ++ more)) rest-is

        state-read : next ≡ lines_read s (M.lines ++ (line ∷ []))
        state-read =
            en
            ∙ ap (λ (u : TextState). line_read u line) M.state
            ∙ read_one (lines_read s M.lines) line
            ∙ sym (read-on s M.lines (line ∷ []))

        records-made : lines_made s M.lines ++ line_made done.state line ≡ lines_made s (M.lines ++ (line ∷ []))
        records-made =
            ap (λ (u : TextState). lines_made s M.lines ++ line_made u line) M.state
            ∙ ap (λ (xs : List ℕ). lines_made s M.lines ++ xs) (made_one (lines_read s M.lines) line)
            ∙ sym (made-on s M.lines (line ∷ []))

        pub making-more : Making text s old behind last
        making-more =
            let K = made_of done.state line in
            record {
              lines = M.lines ++ (line ∷ []);
              cut = lines_cut;
              state = state-read;
              records = appends-as records-made (appends-on M.records w);
              inside = omega (arith, inside_text);
              few = omega (arith, ap (λ (u : TextState). u.lines) en, line-counted done.state line, M.few);
              sheets = M.sheets + K.count;
              whole = omega (arith, ap length records-made, length-append (lines_made s M.lines) (line_made done.state line), K.size, M.whole);
              least = omega (arith, K.least, M.least, long);
            }

        -- it is refused, and the making ends behind it
        pub making-stop : is_fine done.state.verdict ≡ true → is_fine next.verdict ≡ false → MakesRecords text s old behind last
        unfolding making-more
        making-stop fine refused =
            let N = making-more in
            record {
              lines = N.lines;
              cut = N.cut;
              state = N.state;
              records = N.records;
              inside = N.inside;
              few = N.few;
              all = λ yes. absurd (false≢true (sym refused ∙ yes));
              stop = λ no. record {
                before = M.lines;
                last = line;
                split = refl;
                fine = ap (λ (u : TextState). is_fine u.verdict) (sym M.state) ∙ fine;
              };
            }
