-- The demands on encoder, reader and restorer, as statements about the definitions. The calls' contracts say that they answer by these
-- definitions; proofs/Demands.antt proves each statement under the same name in small letters. Assumes nothing.
use Rattle.std.specs.Prelude.{Ok, Result}
use Rattle.field.specs.Question.{Verdict}
use Rattle.field.specs.declared.Question.{Question}
use Rattle.std.specs.Prelude.{◌≡◌, ◌↔◌, ◌≢◌, ◌⊎◌, true, false, cond, List, [], ◌∷◌, map, ℕ, ◌+◌, ◌%◌, ◌≤◌, ◌<◌, eqb, leb, length, replicate}
use Rattle.field.specs.Field.{order}
use Rattle.field.specs.Question.{Outcome, accepted, refused, ask, after, is_width, all_below}
use Rattle.field.specs.declared.Question.TheVariants.{ErasureCount, ErasurePlace, ErasureDistinct, Symbol}
use Rattle.code.specs.Word.{checks, five, places, items, at, syndrome, Codeword, data_of}
use Rattle.code.specs.Erasure.{member, distinct, symbols_from, changes}
use Rattle.code.specs.Near.{distance, Distance, radius, Near, nearby}
use Rattle.code.specs.Call.{max_erasures, encode_of, encode_written, is_codeword_asked, is_codeword_of, read_data_of, read_data_written, restore_asked}
use Rattle.code.specs.Call.{syndromes_of, syndromes_given, within_asked, within_of, within_written}
use Rattle.code.specs.Call.{written, done, word_asked, restore_of, restore_written, repair, RestoresWithin, Restores}

-- ---- demand 2

-- data of the width: q-1 symbols, each below q
pub record Data (m : ℕ) (ds : List ℕ) : Type 0 where
  pub size : length ds ≡ items m
  pub symbols : (i : ℕ) → i < items m → at ds i < order m

-- the encoder makes, from any data symbols, the word that holds them and has all five syndromes zero
abbrev pub EncoderMakes : Type 0
EncoderMakes =
    (m : ℕ) → is_width m ≡ true → (ds out : List ℕ) → Data m ds → length out ≡ places m
    → (encode_of m ds out ≡ accepted 0) × Codeword m (encode_written m ds out) × (data_of (encode_written m ds out) ≡ ds)

-- every word with five zero syndromes is the one that the encoder makes from its own data symbols
abbrev pub EncoderMade : Type 0
EncoderMade =
    (m : ℕ) → is_width m ≡ true → (w out : List ℕ) → Codeword m w → length out ≡ places m
    → (encode_of m (data_of w) out ≡ accepted 0) × (encode_written m (data_of w) out ≡ w)

-- and that data is read back from it
abbrev pub ReadBack : Type 0
ReadBack =
    (m : ℕ) → is_width m ≡ true → (w out : List ℕ) → Codeword m w → length out ≡ items m
    → (read_data_of m w out ≡ accepted 0) × (read_data_written m w out ≡ data_of w)

-- of a word that passes its questions the codeword test says yes exactly when it is a codeword, and else no
abbrev pub TestsCodeword : Type 0
TestsCodeword =
    (m : ℕ) (w : List ℕ) → is_codeword_asked m w ≡ (Ok tt)
    → ((is_codeword_of m w ≡ accepted 1) ↔ Codeword m w) × ((is_codeword_of m w ≡ accepted 0) ↔ (Codeword m w → ⊥))

-- ---- the distance

-- a codeword with fewer symbols other than 0 than the distance is zero: the distance is 5 at an odd width, 4 at an even one
abbrev pub DistanceOf : Type 0
DistanceOf = (m : ℕ) → is_width m ≡ true → Distance m (distance m)

-- at width 4 it is not 5
abbrev pub DistanceNotFive : Type 0
DistanceNotFive = Distance 4 5 → ⊥

-- two codewords that differ at fewer places than the distance are one
abbrev pub CodewordsApart : Type 0
CodewordsApart = (m : ℕ) → is_width m ≡ true → (c d : List ℕ) → Codeword m c → Codeword m d → changes m [] c d < distance m → c ≡ d

-- ---- demand 3

-- r by the number of erasures from 0 on: at an odd width 2, 1, 1, 0, 0 and 0 with five, at an even one 1, 1, 0, 0
abbrev pub Radii : Type 0
Radii =
    (m : ℕ)
    → (m % 2 ≡ 1 → map (radius m) (0 ∷ 1 ∷ 2 ∷ 3 ∷ 4 ∷ 5 ∷ []) ≡ 2 ∷ 1 ∷ 1 ∷ 0 ∷ 0 ∷ 0 ∷ [])
    × (m % 2 ≡ 0 → map (radius m) (0 ∷ 1 ∷ 2 ∷ 3 ∷ []) ≡ 1 ∷ 1 ∷ 0 ∷ 0 ∷ [])

-- the input passes the questions about the word and its erasures
abbrev pub Passes : ℕ → List ℕ → List ℕ → Type 0
Passes m w es = restore_asked m w es ≡ (Ok tt)

-- and with the reach all questions before question 8. The calls without a reach are those with r, so that each statement below is about them
-- too: their reach is `radius m (length es)`, and with it this is Passes (`passes-radius` of proofs/calls/Passing.antt)
abbrev pub PassesWithin : ℕ → List ℕ → List ℕ → ℕ → Type 0
PassesWithin m w es reach = within_asked m w es reach ≡ (Ok tt)

-- with fewer erasures than the distance there is never more than one near codeword
abbrev pub NeverTwo : Type 0
NeverTwo =
    (m : ℕ) (w es : List ℕ) (reach : ℕ) → PassesWithin m w es reach → length es < distance m
    → (c d : List ℕ) → Near m es w reach c → Near m es w reach d → c ≡ d

-- c alone is near, and the answer k is the number of places, outside the erasures, where c differs from w
pub record Nearest (m : ℕ) (w es : List ℕ) (reach : ℕ) (c : List ℕ) (k : ℕ) : Type 0 where
  pub near : Near m es w reach c
  pub only : (d : List ℕ) → Near m es w reach d → d ≡ c
  pub count : k ≡ changes m es w c

-- the restorer accepts exactly when the input passes and exactly one codeword is near; the word then ends equal to it, and the answer counts
-- the changed places
abbrev pub Accepts : Type 0
Accepts =
    (m : ℕ) (w es : List ℕ) (reach k : ℕ) (c : List ℕ)
    → ((within_of m w es reach ≡ accepted k) × (within_written m w es reach ≡ c)) ↔ (PassesWithin m w es reach × Nearest m w es reach c k)

-- it refuses with 7 exactly when the input passes and no codeword is near
abbrev pub RefusesSeven : Type 0
RefusesSeven =
    (m : ℕ) (w es : List ℕ) (reach : ℕ)
    → (within_of m w es reach ≡ refused 7) ↔ (PassesWithin m w es reach × ((c : List ℕ) → Near m es w reach c → ⊥))

-- two different codewords are near
pub record TwoNear (m : ℕ) (es w : List ℕ) (reach : ℕ) : Type 0 where
  pub first : List ℕ
  pub second : List ℕ
  pub first-near : Near m es w reach first
  pub second-near : Near m es w reach second
  pub different : first ≢ second

-- it refuses with 14 exactly when the input passes and several codewords are near
abbrev pub RefusesFourteen : Type 0
RefusesFourteen =
    (m : ℕ) (w es : List ℕ) (reach : ℕ) → (within_of m w es reach ≡ refused 14) ↔ (PassesWithin m w es reach × TwoNear m es w reach)

-- words lent with fewer erasures than the distance get what they got before more were allowed: question 3 lets them pass, and several
-- codewords are never near, so that the answer is never 14
abbrev pub FewErasures : Type 0
FewErasures =
    (m : ℕ) (w es : List ℕ) (reach : ℕ) → length es < distance m
    → (leb (length es) (max_erasures m) ≡ true) × (within_of m w es reach ≡ refused 14 → ⊥)

-- the questions before question 8 as they were then: question 3 said four
abbrev pub earlier_asked : ℕ → List ℕ → List ℕ → Verdict
earlier_asked m word es =
    word_asked m (length word)
    (ask (leb (length es) 4) ErasureCount
    (ask (all_below (places m) es) ErasurePlace
    (ask (distinct es) ErasureDistinct
    (ask (symbols_from (order m) es 0 word) Symbol (Ok tt)))))

-- question 8 as it was, which knew of no several: a near codeword is taken where there is one
abbrev pub earlier_decided : ℕ → List ℕ → List ℕ → List (List ℕ) → Outcome
earlier_decided m word es [] = refused 7
earlier_decided m word es (c ∷ cs) = accepted (changes m es word c)

abbrev pub earlier_restored : List ℕ → List (List ℕ) → List ℕ
earlier_restored word [] = word
earlier_restored word (c ∷ cs) = c

-- what the restorer answered, and the word after the call
abbrev pub earlier_of : ℕ → List ℕ → List ℕ → Outcome
earlier_of m word es = after (earlier_asked m word es) (earlier_decided m word es (nearby m es word (radius m (length es))))

abbrev pub earlier_written : ℕ → List ℕ → List ℕ → List ℕ
earlier_written m word es = written (earlier_asked m word es) word (earlier_restored word (nearby m es word (radius m (length es))))

-- words of an odd width lent with up to four erasures get what they got, answer and word, whether they pass or not
abbrev pub AsEarlier : Type 0
AsEarlier =
    (m : ℕ) (w es : List ℕ) → m % 2 ≡ 1 → length es ≤ 4
    → (restore_of m w es ≡ earlier_of m w es) × (restore_written m w es ≡ earlier_written m w es)

-- what is refused stays as it was
abbrev pub RefusedUnchanged : Type 0
RefusedUnchanged = (m : ℕ) (w es : List ℕ) (reach n : ℕ) → within_of m w es reach ≡ refused n → within_written m w es reach ≡ w

-- the numbers with which restoring a word is refused: those of the questions 1 to 3 and 5 to 8, 14 and 16
abbrev pub RefusalNumbers : Type 0
RefusalNumbers =
    (m : ℕ) (w es : List ℕ) (reach n : ℕ) → within_of m w es reach ≡ refused n
    → (1 ≤ n) × (n ≤ 16) × (member n (1 ∷ 2 ∷ 3 ∷ 4 ∷ 5 ∷ 6 ∷ 7 ∷ 14 ∷ 16 ∷ []) ≡ true)

-- a codeword without erasures is restored at every reach allowed, with no change, and stays
abbrev pub CodewordStays : Type 0
CodewordStays =
    (m : ℕ) → is_width m ≡ true → (c : List ℕ) → Codeword m c → (reach : ℕ) → reach ≤ radius m 0
    → (within_of m c [] reach ≡ accepted 0) × (within_written m c [] reach ≡ c)

-- what is restored at a reach is restored equally at each longer one allowed
abbrev pub LongerReach : Type 0
LongerReach =
    (m : ℕ) (w es : List ℕ) (reach longer k : ℕ) → length es < distance m → reach ≤ longer → PassesWithin m w es longer
    → within_of m w es reach ≡ accepted k
    → (within_of m w es longer ≡ accepted k) × (within_written m w es longer ≡ within_written m w es reach)

-- where the codeword c was written and no more than d - 1 - s - reach places outside the s erasures are wrong, d being the distance, c comes
-- back or the call refuses with 7
abbrev pub ShorterReach : Type 0
ShorterReach =
    (m : ℕ) (w es : List ℕ) (reach : ℕ) (c : List ℕ) → PassesWithin m w es reach → Codeword m c
    → length es + reach + changes m es w c < distance m
    → ((within_of m w es reach ≡ accepted (changes m es w c)) × (within_written m w es reach ≡ c)) ⊎ (within_of m w es reach ≡ refused 7)

-- an accepted word has at most as many changed places as the reach, which is at most two
abbrev pub FewChanged : Type 0
FewChanged =
    (m : ℕ) (w es : List ℕ) (reach k : ℕ) → within_of m w es reach ≡ accepted k → (k ≤ reach) × (reach ≤ 2)

-- how often the number stands in the list
unfoldable pub occurs : ℕ → List ℕ → ℕ
occurs p [] = 0
occurs p (x ∷ xs) = cond (eqb p x) 1 0 + occurs p xs

-- erasures are the same when both lists hold the same entries, each equally often, in any order
abbrev pub SameErasures : List ℕ → List ℕ → Type 0
SameErasures es es' = (p : ℕ) → occurs p es ≡ occurs p es'

-- the words agree outside the erasures
abbrev pub AgreeOutside : List ℕ → List ℕ → List ℕ → Type 0
AgreeOutside es w w' = (p : ℕ) → p < length w → member p es ≡ false → at w p ≡ at w' p

-- words of one width and length that agree outside the same erasures get the same answers at the same reach and, if accepted, end equal
abbrev pub SameRestored : Type 0
SameRestored =
    (m : ℕ) (w w' es es' : List ℕ) (reach : ℕ) → length w ≡ length w' → SameErasures es es' → AgreeOutside es w w'
    → (within_of m w es reach ≡ within_of m w' es' reach)
    × ((k : ℕ) → within_of m w es reach ≡ accepted k → within_written m w es reach ≡ within_written m w' es' reach)

-- two calls that restore the same input at the same reach agree on answer, count and word: the calls that find the wrong places and those
-- that try them have this one contract
abbrev pub MethodsAgree : Type 0
MethodsAgree =
    (m : ℕ) (w es : List ℕ) (reach : ℕ) (a b : Result ℕ Question) (u v : List ℕ) → RestoresWithin m w es reach a u → RestoresWithin m w es reach b v
    → (repair a ≡ repair b) × (u ≡ v)

-- ---- demand 3 of the calls themselves

-- Of a call that was lent the word w with the erasures es, answered a and left u in the word's place: what demand 3 says of it at a reach.
-- `passes` says that the input passes the questions before question 8
pub record Decoded (passes : Type 0) (m : ℕ) (w es : List ℕ) (reach : ℕ) (a : Result ℕ Question) (u : List ℕ) : Type 0 where
  -- with fewer erasures than the distance there is never more than one near codeword
  pub never-two : passes → length es < distance m → (c d : List ℕ) → Near m es w reach c → Near m es w reach d → c ≡ d
  -- k places are restored and the word ends as c exactly when the input passes and c is the one near codeword, with k its count
  pub restored : (k : ℕ) (c : List ℕ) → ((repair a ≡ accepted k) × (u ≡ c)) ↔ (passes × Nearest m w es reach c k)
  -- refused with 7 exactly when the input passes and no codeword is near
  pub none-near : (repair a ≡ refused 7) ↔ (passes × ((c : List ℕ) → Near m es w reach c → ⊥))
  -- with 14 exactly when it passes and several are near
  pub several-near : (repair a ≡ refused 14) ↔ (passes × TwoNear m es w reach)
  -- and if it is refused at all, the word is as it was
  pub refused-unchanged : (n : ℕ) → repair a ≡ refused n → u ≡ w

-- so does every call that keeps the contract of the calls without a reach: the restorer decodes
abbrev pub RestorerDecodes : Type 0
RestorerDecodes =
    (m : ℕ) (w es : List ℕ) (a : Result ℕ Question) (u : List ℕ) → Restores m w es a u → Decoded (Passes m w es) m w es (radius m (length es)) a u

-- and every call that keeps the contract of the calls with a reach
abbrev pub ReachDecodes : Type 0
ReachDecodes =
    (m : ℕ) (w es : List ℕ) (reach : ℕ) (a : Result ℕ Question) (u : List ℕ) → RestoresWithin m w es reach a u
    → Decoded (PassesWithin m w es reach) m w es reach a u

-- any other number is that of the first earlier question that is answered no
abbrev pub EarlierRefused : Type 0
EarlierRefused =
    (m : ℕ) (w es : List ℕ) (a : Result ℕ Question) (u : List ℕ) (n : ℕ) → Restores m w es a u → n ≢ 7 → n ≢ 14
    → (repair a ≡ refused n) ↔ (done (restore_asked m w es) ≡ refused n)

-- the last sentence of demand 3, of two calls without a reach: words of one width and length that agree outside the same erasures get the
-- same answers, case and question, and if they are accepted they end equal, at every place
abbrev pub SameDecoded : Type 0
SameDecoded =
    (m : ℕ) (w w' es es' : List ℕ) (a a' : Result ℕ Question) (u u' : List ℕ) → Restores m w es a u → Restores m w' es' a' u'
    → length w ≡ length w' → SameErasures es es' → AgreeOutside es w w'
    → (a ≡ a') × ((k : ℕ) → repair a ≡ accepted k → u ≡ u')

-- and of two calls at the same reach
abbrev pub SameWithin : Type 0
SameWithin =
    (m : ℕ) (w w' es es' : List ℕ) (reach : ℕ) (a a' : Result ℕ Question) (u u' : List ℕ) → RestoresWithin m w es reach a u
    → RestoresWithin m w' es' reach a' u' → length w ≡ length w' → SameErasures es es' → AgreeOutside es w w'
    → (a ≡ a') × ((k : ℕ) → repair a ≡ accepted k → u ≡ u')

-- ---- the display of the syndromes

-- with no erasures it shows the syndromes of equation (11)
abbrev pub GivesPlain : Type 0
GivesPlain = (m : ℕ) (w : List ℕ) → Passes m w [] → syndromes_given m w [] ≡ five (syndrome m (at w))

-- which are zero exactly for a codeword
abbrev pub GivesZero : Type 0
GivesZero = (m : ℕ) (w : List ℕ) → Passes m w [] → (syndromes_given m w [] ≡ replicate checks 0) ↔ Codeword m w

-- words of one width and length that agree outside the same erasures get the same answers and the same syndromes
abbrev pub SameGiven : Type 0
SameGiven =
    (m : ℕ) (w w' es es' : List ℕ) → length w ≡ length w' → SameErasures es es' → AgreeOutside es w w'
    → (syndromes_of m w es ≡ syndromes_of m w' es') × (syndromes_given m w es ≡ syndromes_given m w' es')
