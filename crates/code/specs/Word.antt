-- The five times extended Reed-Solomon code of document 003: places, syndromes, codewords, encoder. m is the width, q = 2 ^ m.
-- In the definitions of sums a word is a function from places to symbols; a list w is one as `at w`. Assumes nothing.
use Rattle.std.specs.Prelude.{◌≡◌, cond, List, ◌++◌, ℕ, ◌+◌, ◌-◌, ◌<◌, length, drop}
use Rattle.field.specs.Polynomial.{add}
use Rattle.field.specs.Field.{order}
use Rattle.field.specs.Question.{is_width}
-- `at w p` is the symbol at place p of the word w, `sum n f` the field sum of f 0 to f (n - 1), `five f` a number for each syndrome, and
-- `weighted m n c k` the field sum over i below n of α^(k·i) times c_i
unfoldable pub use Rattle.field.specs.Sum.{sum}
pub use Rattle.field.specs.Sum.{at, five, weighted}

-- the number of check symbols p_0 to p_4, which stand before the data
abbrev pub checks : ℕ
checks = 5

-- n, the number of places of a word
abbrev pub places : ℕ → ℕ
places m = order m + 4

-- the length of a word of the width m, or 0 where the field has no such width
abbrev pub word_length : ℕ → ℕ
word_length m = cond (is_width m) (places m) 0

-- the longest word, at width 7
abbrev pub longest : ℕ
longest = 132

-- the number of data symbols c_0 to c_(q-2); c_i stands at place 5 + i
abbrev pub items : ℕ → ℕ
items m = order m - 1

-- what the data c adds to the sum k, which the check symbol p_k has to make up for
abbrev pub parity : ℕ → (ℕ → ℕ) → ℕ → ℕ
parity m c k = weighted m (items m) c k

-- syndrome k of the word w, document 01's sum S_k: equation (11) of document 003
abbrev pub syndrome : ℕ → (ℕ → ℕ) → ℕ → ℕ
syndrome m w k = add (w k) (parity m (λ i. w (checks + i)) k)

-- a codeword: n symbols, each below q, with five zero syndromes
pub record Codeword (m : ℕ) (w : List ℕ) : Type 0 where
  pub size : length w ≡ places m
  pub symbols : (p : ℕ) → p < places m → at w p < order m
  pub zero-syndromes : (k : ℕ) → k < checks → syndrome m (at w) k ≡ 0

-- the encoder's word for the data c: five check symbols, then the data
abbrev pub encode : ℕ → List ℕ → List ℕ
encode m c = five (parity m (at c)) ++ c

-- the data of a word
abbrev pub data_of : List ℕ → List ℕ
data_of w = drop checks w
