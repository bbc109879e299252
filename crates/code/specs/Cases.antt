-- The starred cases of document 01 and document 02's words with five erasures, all at width 3, and its codeword of width 4: the table
-- `cases` and what it says.
-- proofs/Cases.antt proves it, in one theorem `cases-hold : Table cases`. Assumes nothing.
use Rattle.std.specs.Prelude.{◌≡◌, List, [], ◌∷◌, ◌++◌, ℕ, length, set, replicate}
use Rattle.field.specs.Question.{Outcome, accepted, refused}
use Rattle.code.specs.Word.{places, encode, Codeword}
use Rattle.code.specs.Call.{encode_of, encode_written, restore_of, restore_written}

-- a row of the table
pub data Case : Type 0 where
  -- data, and the encoder's word
  encoding : List ℕ → List ℕ → Case
  -- a word and its erasures; the restorer's answer, and the word afterwards
  restoring : List ℕ → List ℕ → Outcome → List ℕ → Case
  -- a codeword of a width
  codeword : ℕ → List ℕ → Case

-- a word that is refused, with the number, stays as it was
abbrev pub refusing : List ℕ → List ℕ → ℕ → Case
refusing w es n = restoring w es (refused n) w

-- seven data symbols
abbrev pub symbols : ℕ → ℕ → ℕ → ℕ → ℕ → ℕ → ℕ → List ℕ
symbols a b c d e f g = a ∷ b ∷ c ∷ d ∷ e ∷ f ∷ g ∷ []

-- five check symbols, document 01's bar, and the data
abbrev pub word : ℕ → ℕ → ℕ → ℕ → ℕ → List ℕ → List ℕ
word a b c d e ds = a ∷ b ∷ c ∷ d ∷ e ∷ ds

-- the word w with the symbol x at place p
infixl 10 ◌but◌is◌
abbrev pub ◌but◌is◌ : List ℕ → ℕ → ℕ → List ℕ
w but p is x = set w p x

-- the words of rows A, C and D
abbrev pub zeros : List ℕ
zeros = word 0 0 0 0 0 (symbols 0 0 0 0 0 0 0)

abbrev pub word_c : List ℕ
word_c = word 1 2 4 3 6 (symbols 0 1 0 0 0 0 0)

abbrev pub word_d : List ℕ
word_d = word 1 0 0 0 0 (symbols 1 1 1 1 1 1 1)

-- the rows A to N
abbrev pub starred : List Case
starred =
    encoding (symbols 0 0 0 0 0 0 0) zeros  -- A
    ∷ encoding (symbols 1 0 0 0 0 0 0) (word 1 1 1 1 1 (symbols 1 0 0 0 0 0 0))  -- B
    ∷ encoding (symbols 0 1 0 0 0 0 0) word_c  -- C
    ∷ encoding (symbols 1 1 1 1 1 1 1) word_d  -- D
    ∷ encoding (symbols 3 0 1 0 0 0 0) (word 2 7 5 6 1 (symbols 3 0 1 0 0 0 0))  -- E
    ∷ restoring (zeros but 5 is 1) [] (accepted 1) zeros  -- F
    ∷ restoring (zeros but 0 is 7 but 5 is 7) [] (accepted 2) zeros  -- G
    ∷ refusing (zeros but 0 is 1 but 1 is 1 but 2 is 1) [] 7  -- H
    ∷ refusing (zeros but 1 is 1 but 2 is 1) (0 ∷ []) 7  -- I
    ∷ restoring (zeros but 7 is 5) (0 ∷ 1 ∷ []) (accepted 1) zeros  -- J
    ∷ refusing (zeros but 7 is 5) (0 ∷ 1 ∷ 2 ∷ []) 7  -- K
    ∷ restoring word_d (5 ∷ []) (accepted 0) word_d  -- L
    ∷ restoring (word 1 2 0 3 6 (symbols 0 0 0 0 0 0 0)) (2 ∷ 5 ∷ 6 ∷ 8 ∷ []) (accepted 0) word_c  -- M
    ∷ refusing (zeros but 4 is 1) (0 ∷ 1 ∷ 2 ∷ 3 ∷ []) 7  -- N
    ∷ []

-- five erasures: several codewords agree outside them, or none, or one, where all check symbols are lost
abbrev pub five_erasures : List Case
five_erasures =
    refusing zeros (2 ∷ 4 ∷ 5 ∷ 6 ∷ 8 ∷ []) 14
    ∷ refusing (zeros but 0 is 1) (2 ∷ 4 ∷ 5 ∷ 6 ∷ 8 ∷ []) 7
    ∷ restoring (word 0 0 0 0 0 (symbols 0 1 0 0 0 0 0)) (0 ∷ 1 ∷ 2 ∷ 3 ∷ 4 ∷ []) (accepted 0) word_c
    ∷ []

-- width 4: c_0, c_5, c_10 and p_2, and zeros elsewhere
abbrev pub four_symbols : List ℕ
four_symbols = replicate (places 4) 0 but 5 is 1 but 10 is 6 but 15 is 7 but 2 is 1

abbrev pub width_four : List Case
width_four = codeword 4 four_symbols ∷ []

abbrev pub cases : List Case
cases = starred ++ (five_erasures ++ width_four)

-- what a row says: the encoder accepts the data, whatever the output held before, and writes the word; the restorer answers the outcome
-- and leaves the word; the word of that width is a codeword
abbrev pub Holds : Case → Type 0
Holds (encoding ds w) =
    (encode 3 ds ≡ w) × ((out : List ℕ) → length out ≡ places 3 → (encode_of 3 ds out ≡ accepted 0) × (encode_written 3 ds out ≡ w))
Holds (restoring w es o c) = (restore_of 3 w es ≡ o) × (restore_written 3 w es ≡ c)
Holds (codeword m w) = Codeword m w

-- every row holds
abbrev pub Table : List Case → Type 0
Table [] = Unit {0}
Table (x ∷ xs) = Holds x × Table xs
