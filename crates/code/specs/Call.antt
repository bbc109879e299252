-- What the calls of this crate answer, and what the lent memory holds afterwards, on every input. Assumes nothing.
use Rattle.std.specs.Prelude.{Ok, Err, Result, ◌≡◌, Bool, true, false, cond, ◌&&◌, List, [], ◌∷◌, ℕ, ◌+◌, ◌*◌, ◌%◌, eqb, leb, length, replicate}
use Rattle.field.specs.Field.{order}
use Rattle.field.specs.Question.{Verdict, Outcome, accepted, refused, refusal, ask, after, is_width, all_below}
use Rattle.field.specs.declared.Question.{Question}
use Rattle.field.specs.Answer.{outcome}
use Rattle.field.specs.declared.Question.TheVariants.{Width, Length, ErasureCount, ErasurePlace, ErasureDistinct, Symbol, Reach, Correctable, Unique, Syndrome}
use Rattle.code.specs.Word.{checks, places, items, encode, data_of}
use Rattle.code.specs.Erasure.{distinct, symbols_from, changes, syndromes_without}
use Rattle.code.specs.Near.{radius, Restoration, none, one, several, restoration}

-- a lent slice after the call: written where all questions passed, else as it was
abbrev pub written : Verdict → List ℕ → List ℕ → List ℕ
written (Ok tt) old new = new
written (Err q) old new = old

-- the list holds zeros alone
abbrev pub all_zero : List ℕ → Bool
all_zero [] = true
all_zero (x ∷ xs) = eqb x 0 && all_zero xs

-- do the lists hold the same bytes?
unfoldable pub same_bytes : List ℕ → List ℕ → Bool
same_bytes [] [] = true
same_bytes [] (y ∷ ys) = false
same_bytes (x ∷ xs) [] = false
same_bytes (x ∷ xs) (y ∷ ys) = eqb x y && same_bytes xs ys

-- question 9: are the five syndromes zero?
unfoldable pub zero_syndromes : ℕ → List ℕ → Bool
zero_syndromes m w = all_zero (syndromes_without m [] w)

-- the number and the value of a verdict, of a call that has no value of its own
abbrev pub done : Verdict → Outcome
done v = after v (accepted 0)

-- questions 1 and 2, put to a width and a word of n bytes, then the next
abbrev pub word_asked : ℕ → ℕ → Verdict → Verdict
word_asked m n next = ask (is_width m) Width (ask (eqb n (places m)) Length next)

-- question 2, put to data of n bytes, then question 7, put to the symbols, then the next
abbrev pub data_asked : ℕ → ℕ → List ℕ → Verdict → Verdict
data_asked m n symbols next = ask (eqb n (items m)) Length (ask (all_below (order m) symbols) Symbol next)

-- ---- encode: questions 1, 2 and 7, the last put to the data

-- the questions, put to data and the length n of the word that is to hold its codeword
unfoldable pub encode_asked : ℕ → List ℕ → ℕ → Verdict
encode_asked m ds n = word_asked m n (data_asked m (length ds) ds (Ok tt))

-- what the encoder answers
abbrev pub encode_of : ℕ → List ℕ → List ℕ → Outcome
encode_of m ds word = done (encode_asked m ds (length word))

-- the word after the call
abbrev pub encode_written : ℕ → List ℕ → List ℕ → List ℕ
encode_written m ds word = written (encode_asked m ds (length word)) word (encode m ds)

-- the call's promise: what encode answers and leaves in the word
pub record Encodes (m : ℕ) (ds old : List ℕ) (v : Verdict) (new : List ℕ) : Type 0 where
  pub answer : done v ≡ encode_of m ds old
  pub word : new ≡ encode_written m ds old

-- ---- the codeword test: questions 1, 2 and 7, then 1 for yes and 0 for no

-- the questions, put to a word
unfoldable pub is_codeword_asked : ℕ → List ℕ → Verdict
is_codeword_asked m word = word_asked m (length word) (ask (all_below (order m) word) Symbol (Ok tt))

-- what the test answers
abbrev pub is_codeword_of : ℕ → List ℕ → Outcome
is_codeword_of m word = after (is_codeword_asked m word) (accepted (cond (zero_syndromes m word) 1 0))

-- the outcome that the test's answer stands for
abbrev pub membership : Result Bool Question → Outcome
membership (Ok b) = accepted (cond b 1 0)
membership (Err q) = refused (refusal q)

-- ---- the reader of data: questions 1, 2, 7 and 9

-- the questions, put to a word and the length n of the slice that is to hold its data
unfoldable pub read_data_asked : ℕ → List ℕ → ℕ → Verdict
read_data_asked m word n = word_asked m (length word) (data_asked m n word (ask (zero_syndromes m word) Syndrome (Ok tt)))

-- what the reader answers
abbrev pub read_data_of : ℕ → List ℕ → List ℕ → Outcome
read_data_of m word ds = done (read_data_asked m word (length ds))

-- the data after the call
abbrev pub read_data_written : ℕ → List ℕ → List ℕ → List ℕ
read_data_written m word ds = written (read_data_asked m word (length ds)) ds (data_of word)

-- the call's promise: what the reader answers and leaves in the data
pub record ReadsData (m : ℕ) (word old : List ℕ) (v : Verdict) (new : List ℕ) : Type 0 where
  pub answer : done v ≡ read_data_of m word old
  pub symbols : new ≡ read_data_written m word old

-- ---- a word with erasures: questions 1, 2, 3, 5, 6 and 7

-- question 3's bound: five erasures at an odd width, three at an even one
abbrev pub max_erasures : ℕ → ℕ
max_erasures m = 3 + 2 * (m % 2)

-- questions 3, 5, 6 and 7, put to the erasures and the word
abbrev pub erasures_asked : ℕ → List ℕ → List ℕ → Verdict
erasures_asked m word es =
    ask (leb (length es) (max_erasures m)) ErasureCount
    (ask (all_below (places m) es) ErasurePlace
    (ask (distinct es) ErasureDistinct
    (ask (symbols_from (order m) es 0 word) Symbol (Ok tt))))

-- all questions before question 8
unfoldable pub restore_asked : ℕ → List ℕ → List ℕ → Verdict
restore_asked m word es = word_asked m (length word) (erasures_asked m word es)

-- ---- the display of the syndromes: the questions before question 8

-- five numbers by value beside a verdict: 0 each where a question was answered no
abbrev pub shown : Verdict → List ℕ → List ℕ
shown (Ok tt) sums = sums
shown (Err q) sums = replicate checks 0

-- what the display answers
abbrev pub syndromes_of : ℕ → List ℕ → List ℕ → Outcome
syndromes_of m word es = done (restore_asked m word es)

-- the five numbers beside it: the syndromes without the erasures
abbrev pub syndromes_given : ℕ → List ℕ → List ℕ → List ℕ
syndromes_given m word es = shown (restore_asked m word es) (syndromes_without m es word)

-- the five numbers alone where all questions passed
abbrev pub displayed : Verdict → List ℕ → Result (List ℕ) Question
displayed (Ok tt) sums = Ok sums
displayed (Err q) sums = Err q

-- the call's promise: the syndromes without the erasures, or the question that was answered no
abbrev pub syndromes_shown : ℕ → List ℕ → List ℕ → Result (List ℕ) Question
syndromes_shown m word es = displayed (restore_asked m word es) (syndromes_without m es word)

-- ---- the restorer with a reach: document 02's question about it, then question 8

-- the next question, put where all before it were answered yes
abbrev pub followed : Verdict → Verdict → Verdict
followed (Ok tt) next = next
followed (Err q) next = Err q

-- all questions before question 8, the last of them whether the reach is at most r
unfoldable pub within_asked : ℕ → List ℕ → List ℕ → ℕ → Verdict
within_asked m word es reach = followed (restore_asked m word es) (ask (leb reach (radius m (length es))) Reach (Ok tt))

-- question 8, then document 02's question whether there are not several near codewords, and the number of changed places
abbrev pub decided : ℕ → List ℕ → List ℕ → Restoration → Outcome
decided m word es none = refused (refusal Correctable)
decided m word es (one c) = accepted (changes m es word c)
decided m word es several = refused (refusal Unique)

-- the word after question 8: the near codeword, or as it was
abbrev pub restored : List ℕ → Restoration → List ℕ
restored word none = word
restored word (one c) = c
restored word several = word

-- what the restorer answers at a reach
abbrev pub within_of : ℕ → List ℕ → List ℕ → ℕ → Outcome
within_of m word es reach = after (within_asked m word es reach) (decided m word es (restoration m es word reach))

-- the word after the call
abbrev pub within_written : ℕ → List ℕ → List ℕ → ℕ → List ℕ
within_written m word es reach = written (within_asked m word es reach) word (restored word (restoration m es word reach))

-- the outcome that the restorer's answer stands for
abbrev pub repair : Result ℕ Question → Outcome
repair r = outcome r

-- the call's promise: what restore answers and leaves in the word
pub record RestoresWithin (m : ℕ) (old es : List ℕ) (reach : ℕ) (r : Result ℕ Question) (new : List ℕ) : Type 0 where
  pub answer : repair r ≡ within_of m old es reach
  pub word : new ≡ within_written m old es reach

-- ---- who names no reach gets r

abbrev pub restore_of : ℕ → List ℕ → List ℕ → Outcome
restore_of m word es = within_of m word es (radius m (length es))

abbrev pub restore_written : ℕ → List ℕ → List ℕ → List ℕ
restore_written m word es = within_written m word es (radius m (length es))

abbrev pub Restores : ℕ → List ℕ → List ℕ → Result ℕ Question → List ℕ → Type 0
Restores m old es r new = RestoresWithin m old es (radius m (length es)) r new
