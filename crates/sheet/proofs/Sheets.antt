-- What passes the questions of writing and reading, what passing tells, and that each undoes the other. Assumes nothing.
use Rattle.std.proofs.Common.{Ok}
use Rattle.field.proofs.Base.{◌≡◌, refl, sym, ap, ap₂, ◌∙◌, subst, true, List, [], ◌∷◌, ◌++◌, ℕ, ◌+◌, ◌-◌, ◌<◌, arith, eq-eqb, eqb-true, eqb, ltb}
use Rattle.field.proofs.Base.{length, get_or, replicate, take-append-drop, length-take, length-drop, length-append, take_at, drop_at, get_or-take}
use Rattle.field.proofs.Base.{get_or-drop}
use Rattle.field.specs.Field.{order}
use Rattle.field.specs.Question.{is_width, all_below}
use Rattle.field.specs.declared.Question.TheVariants.{Width, Length, Symbol, Syndrome, SheetWidth, Date, Unused}
use Rattle.field.proofs.Ask.{ask-yes, ask-next, and-true-left, and-true-right}
use Rattle.code.specs.Word.{checks, places, items, at, Codeword, encode, data_of}
use Rattle.code.specs.Call.{all_zero, zero_syndromes}
use Rattle.code.specs.Demands.{Data}
use Rattle.code.proofs.Questions.{all_below-means, all_below-holds, all_zero-below}
use Rattle.code.proofs.calls.Passing.{syndromes-zero, zero-syndromes}
use Rattle.field.proofs.Widths.{field_of}
use Rattle.code.proofs.calls.Encoding.{encode-codeword, codeword-encode}
use Rattle.sheet.specs.Sheet.{sheet_width, sheet_size, unused_size, is_dated, sheet_data, sheet_word, symbols_of, unused_symbols}
use Rattle.sheet.specs.Call.{write_sheet_asked, content_asked, read_sheet_asked}
use Rattle.sheet.specs.Demands.{SheetSymbols, DaySheet, Writable, Readable}

-- ---- zeros

zeros-replicate : (xs : List ℕ) → all_zero xs ≡ true → xs ≡ replicate (length xs) 0
zeros-replicate [] h = refl
zeros-replicate (x ∷ xs) h =
    ap₂ ◌∷◌ (eqb-true x 0 (and-true-left (eqb x 0) (all_zero xs) h)) (zeros-replicate xs (and-true-right (eqb x 0) (all_zero xs) h))

module _ (xs : List ℕ) where
  zeros-mean : all_zero xs ≡ true → (k : ℕ) → k < length xs → get_or xs k 0 ≡ 0
  zeros-mean h k l = omega (arith, all_below-means 1 xs (all_zero-below xs ∙ h) k l)

  zeros-hold : ((k : ℕ) → k < length xs → get_or xs k 0 ≡ 0) → all_zero xs ≡ true
  zeros-hold h = sym (all_zero-below xs) ∙ all_below-holds 1 xs (λ k l. omega (arith, h k l))

-- ---- day sheets

unused-long : (w : List ℕ) → Codeword sheet_width w → length (unused_symbols w) ≡ unused_size
unused-long w C = simp length-drop (omega (arith, C.size))

-- a day sheet, by the answers to questions 12 and 13
sheet-of : (w : List ℕ) → Codeword sheet_width w → is_dated (symbols_of w) ≡ true → all_zero (unused_symbols w) ≡ true → DaySheet w
sheet-of w C d z = record {
  codeword = C;
  date = d;
  unused = λ i l h.
      (let split : sheet_size + (i - sheet_size) ≡ i = omega arith in
      sym (ap (at (data_of w)) split) ∙ sym (get_or-drop sheet_size (data_of w) (i - sheet_size) 0)
      ∙ zeros-mean (unused_symbols w) z (i - sheet_size) (omega (arith, unused-long w C)));
}

-- and the answer to question 13 from a day sheet
unused-zero : (w : List ℕ) → DaySheet w → all_zero (unused_symbols w) ≡ true
unused-zero w D =
    zeros-hold (unused_symbols w)
    (λ i l. get_or-drop sheet_size (data_of w) i 0 ∙ D.unused (sheet_size + i) (omega arith) (omega (arith, unused-long w D.codeword)))

-- ---- writing

below-append : (q : ℕ) (xs ys : List ℕ) → all_below q xs ≡ true → all_below q ys ≡ true → all_below q (xs ++ ys) ≡ true
below-append q [] ys h k = k
below-append q (x ∷ xs) ys h k =
    simp (and-true-left (ltb x q) (all_below q xs) h, below-append q xs ys (and-true-right (ltb x q) (all_below q xs) h) k)

module _ (ss : List ℕ) (S : SheetSymbols ss) where
  symbols-below : all_below (order sheet_width) ss ≡ true
  symbols-below = all_below-holds (order sheet_width) ss (λ i l. S.symbols i (omega (arith, S.size)))

  data-long : length (sheet_data ss) ≡ items sheet_width
  data-long = simp length-append (omega (arith, S.size))

  pub sheet-data : Data sheet_width (sheet_data ss)
  sheet-data = record {
    size = data-long;
    symbols = λ i l.
        all_below-means (order sheet_width) (sheet_data ss) (below-append (order sheet_width) ss (replicate unused_size 0) symbols-below refl) i
        (omega (arith, data-long));
  }

  pub write-passes : (n : ℕ) → n ≡ places sheet_width → write_sheet_asked sheet_width ss n ≡ (Ok tt)
  unfolding write_sheet_asked
  write-passes n e = simp (eq-eqb n (places sheet_width) e, eq-eqb (length ss) sheet_size S.size, symbols-below, S.date)

  -- the sheet holds the symbols
  pub sheet-symbols : symbols_of (sheet_word ss) ≡ ss
  sheet-symbols = take_at ss (replicate unused_size 0) sheet_size S.size

  sheet-unused : unused_symbols (sheet_word ss) ≡ replicate unused_size 0
  sheet-unused = drop_at ss (replicate unused_size 0) sheet_size S.size

  pub written-sheet : DaySheet (sheet_word ss)
  written-sheet =
      sheet-of (sheet_word ss) (encode-codeword (field_of sheet_width refl) sheet-data) (ap is_dated sheet-symbols ∙ S.date)
      (ap all_zero sheet-unused)

pub write-means : (m : ℕ) (ss word : List ℕ) → write_sheet_asked m ss (length word) ≡ (Ok tt) → Writable m ss word
unfolding write_sheet_asked
write-means m ss word p1 =
    let n = length word in
    let p2 = ask-next (is_width m) Width _ p1 in
    let p3 = ask-next (eqb n (places m)) Length _ p2 in
    let p4 = ask-next (eqb (length ss) sheet_size) Length _ p3 in
    let p5 = ask-next (all_below (order m) ss) Symbol _ p4 in
    let p6 = ask-next (eqb m sheet_width) SheetWidth _ p5 in
    let x : m ≡ sheet_width = eqb-true m sheet_width (ask-yes (eqb m sheet_width) SheetWidth _ p5) in
    let size : length ss ≡ sheet_size = eqb-true (length ss) sheet_size (ask-yes (eqb (length ss) sheet_size) Length _ p3) in
    let below = ask-yes (all_below (order m) ss) Symbol _ p4 in
    record {
      width = x;
      word_size = eqb-true n (places m) (ask-yes (eqb n (places m)) Length _ p2) ∙ ap places x;
      symbols = record {
        size = size;
        symbols = λ i l. subst (λ (q : ℕ). at ss i < q) (ap order x) (all_below-means (order m) ss below i (omega arith));
        date = ask-yes (is_dated ss) Date (Ok tt) p6;
      };
    }

-- ---- reading

module _ (w : List ℕ) where
  -- a codeword passes the questions before those about its content
  pub codeword-content : (m k : ℕ) → is_width m ≡ true → Codeword m w → k ≡ sheet_size → read_sheet_asked m w k ≡ content_asked m w
  unfolding read_sheet_asked
  codeword-content m k h C e = simp (
    h,
    eq-eqb (length w) (places m) C.size,
    eq-eqb k sheet_size e,
    all_below-holds (order m) w (λ i l. C.symbols i (omega (arith, C.size))),
    zero-syndromes m w C.zero-syndromes,
  )

  pub read-passes : (k : ℕ) → DaySheet w → k ≡ sheet_size → read_sheet_asked sheet_width w k ≡ (Ok tt)
  read-passes k D e = codeword-content sheet_width k refl D.codeword e ∙ simp (D.date, unused-zero w D)

pub read-means : (m : ℕ) (w ss : List ℕ) → read_sheet_asked m w (length ss) ≡ (Ok tt) → Readable m w ss
unfolding read_sheet_asked
read-means m w ss p1 =
    let k = length ss in
    let p2 = ask-next (is_width m) Width _ p1 in
    let p3 = ask-next (eqb (length w) (places m)) Length _ p2 in
    let p4 = ask-next (eqb k sheet_size) Length _ p3 in
    let p5 = ask-next (all_below (order m) w) Symbol _ p4 in
    let p6 = ask-next (zero_syndromes m w) Syndrome _ p5 in
    let p7 = ask-next (eqb m sheet_width) SheetWidth _ p6 in
    let p8 = ask-next (is_dated (symbols_of w)) Date _ p7 in
    let x : m ≡ sheet_width = eqb-true m sheet_width (ask-yes (eqb m sheet_width) SheetWidth _ p6) in
    let long : length w ≡ places m = eqb-true (length w) (places m) (ask-yes (eqb (length w) (places m)) Length _ p2) in
    let C : Codeword m w = record {
      size = long;
      symbols = λ i l. all_below-means (order m) w (ask-yes (all_below (order m) w) Symbol _ p4) i (omega arith);
      zero-syndromes = syndromes-zero m w (ask-yes (zero_syndromes m w) Syndrome _ p5);
    } in
    record {
      width = x;
      symbols-size = eqb-true k sheet_size (ask-yes (eqb k sheet_size) Length _ p3);
      sheet = sheet-of w (subst (λ (n : ℕ). Codeword n w) x C) (ask-yes (is_dated (symbols_of w)) Date _ p7)
          (ask-yes (all_zero (unused_symbols w)) Unused (Ok tt) p8);
    }

-- ---- what is read, written again

module _ (w : List ℕ) (D : DaySheet w) where
  C : Codeword sheet_width w
  C = D.codeword

  pub read-symbols : SheetSymbols (symbols_of w)
  read-symbols = record {
    size = simp (length-take, length-drop) (omega (arith, C.size));
    symbols = λ i l.
        subst (λ (x : ℕ). x < order sheet_width) (sym (get_or-take sheet_size (data_of w) i 0 l ∙ get_or-drop checks w i 0))
        (C.symbols (checks + i) (omega arith));
    date = D.date;
  }

  pub sheet-again : sheet_word (symbols_of w) ≡ w
  sheet-again =
      ap (λ (us : List ℕ). encode sheet_width (symbols_of w ++ us)) (sym padding)
      ∙ ap (encode sheet_width) (take-append-drop sheet_size (data_of w))
      ∙ codeword-encode (field_of sheet_width refl) C
    where
      padding : unused_symbols w ≡ replicate unused_size 0
      padding = zeros-replicate (unused_symbols w) (unused-zero w D) ∙ ap (λ (n : ℕ). replicate n 0) (unused-long w C)
