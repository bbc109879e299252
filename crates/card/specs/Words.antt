-- Refusals in plain words, and the line that names a refused record. Assumes nothing.
use Rattle.std.specs.Prelude.{List, [], ◌∷◌, ◌++◌, ℕ, get_or}
use Rattle.card.specs.Listing.{bytes_of, decimal, space, newline}

-- the refusals, in the order of their numbers; 0 is none
unfoldable pub words : ℕ → List ℕ
words n =
    get_or
    (bytes_of "accepted"
    ∷ bytes_of "the width is not 3, 4, 5 or 7"
    ∷ bytes_of "the length is not the right one"
    ∷ bytes_of "there are too many erasures"
    ∷ bytes_of "an erasure is no place of the word"
    ∷ bytes_of "an erasure is given twice"
    ∷ bytes_of "a symbol outside the erasures is not below 2^width"
    ∷ bytes_of "no codeword is near"
    ∷ bytes_of "an unused erasure byte is not 255, or the tail is not 0"
    ∷ bytes_of "a syndrome is not zero"
    ∷ bytes_of "the symbol 0 has no inverse"
    ∷ bytes_of "the width of a day sheet is not 7"
    ∷ bytes_of "the date of a day sheet does not exist"
    ∷ bytes_of "an unused symbol of a day sheet is not 0"
    ∷ bytes_of "several codewords agree outside the five erasures"
    ∷ bytes_of "there are five erasures, and the old edition has room for four"
    ∷ bytes_of "the reach is longer than r"
    ∷ bytes_of "the card has no record of that number"
    ∷ bytes_of "the bay is not 0 to 3"
    ∷ bytes_of "no rewrite is left to the bay"
    ∷ bytes_of "the two day sheets have not the same pump and date"
    ∷ bytes_of "the window has no quarter hour, or its end is above 96"
    ∷ [])
    n []

-- the line that names a refused record: its number, its refusal number, and the words
abbrev pub refusal_line : ℕ → ℕ → List ℕ
refusal_line n r = decimal n ++ (space ∷ decimal r ++ (space ∷ words r ++ (newline ∷ [])))
