-- What the functions below the restorer work on and give: a trial, which is places taken as erased, and a correction.
-- Assumes nothing.
use Rattle.std.specs.Prelude.{◌≡◌, ◌≢◌, true, false, cond, List, [], ◌∷◌, ◌++◌, ℕ, zero, suc, ◌+◌, ◌-◌, ◌≤◌, ◌<◌, eqb, leb, length, get_or, set, take}
use Rattle.field.specs.Field.{order}
use Rattle.field.specs.Question.{is_width, all_below}
use Rattle.code.specs.declared.erasures.Trial.{Trial}
use Rattle.code.specs.declared.erasures.Correction.{Correction}
use Rattle.code.specs.declared.solver.Solutions.{Solutions}
use Rattle.code.specs.declared.solver.Solutions.TheVariants.{None, One, Several}
use Rattle.code.specs.Word.{checks, places, longest, at, five, Codeword}
use Rattle.code.specs.inner.Place.{numbers, column}
use Rattle.code.specs.Erasure.{member, distinct, syndromes_without}
use Rattle.code.specs.Near.{Near}
use Rattle.code.specs.inner.Matrix.{rows, columns, unknowns}

-- the word with the values zs at the places ls
unfoldable pub fill : List ℕ → List ℕ → List ℕ → List ℕ
fill w [] zs = w
fill w (l ∷ ls) [] = w
fill w (l ∷ ls) (z ∷ zs) = set (fill w ls zs) l z

-- c agrees with w outside the places ls
abbrev pub Agrees : ℕ → List ℕ → List ℕ → List ℕ → Type 0
Agrees m ls w c = (p : ℕ) → p < places m → member p ls ≡ false → at c p ≡ at w p

-- a word of the right length with symbols outside the places ls, which are distinct places
pub record Lent (m : ℕ) (w ls : List ℕ) : Type 0 where
  pub size : length w ≡ places m
  pub symbols : (p : ℕ) → p < places m → member p ls ≡ false → at w p < order m
  pub distinct : distinct ls ≡ true
  pub below : all_below (places m) ls ≡ true

-- ---- a trial: places taken as erased, the erasures and extra ones, with the syndromes of the rest

-- the places of a trial, by their numbers
abbrev pub places_of : Trial → List ℕ
places_of t = take t.count (numbers t.places)

-- the trial is one of the word w
pub record Ready (m : ℕ) (w : List ℕ) (t : Trial) : Type 0 where
  pub width : is_width m ≡ true
  pub lent : Lent m w (places_of t)
  pub sums : t.sums ≡ syndromes_without m (places_of t) w

-- the entry in row k and column j of the system of a trial: the right-hand side, then a column for each place, then zeros
abbrev pub system_entry : ℕ → List ℕ → ℕ → ℕ → ℕ → ℕ
system_entry m ls b k j = cond (eqb j 0) b (cond (leb j (length ls)) (column m (get_or ls (j - 1) 0) k) 0)

-- the columns without the right-hand side, the first of them column 1
pub record SystemColumns (m : ℕ) (ls : List ℕ) (a : List (List ℕ)) : Type 0 where
  pub wide : length a ≡ unknowns
  pub each : is_width m ≡ true → (j : ℕ) → j < unknowns → get_or a j [] ≡ five (λ k. system_entry m ls 0 k (suc j))

-- the row for syndrome k
pub record SystemRow (m : ℕ) (ls : List ℕ) (b k : ℕ) (row : List ℕ) : Type 0 where
  pub wide : length row ≡ columns
  pub entries : is_width m ≡ true → (j : ℕ) → j < columns → get_or row j 0 ≡ system_entry m ls b k j

-- the matrix of a trial of the first n places
pub record SystemMatrix (m : ℕ) (ps : List ℕ) (n : ℕ) (sums : List ℕ) (a : List (List ℕ)) : Type 0 where
  pub room : length ps ≡ unknowns
  pub tall : length a ≡ rows
  pub each : (k : ℕ) → k < rows → SystemRow m (take n ps) (at sums k) k (get_or a k [])

-- ---- a correction: places, and the symbols that belong there

-- the places of a correction, by their numbers
abbrev pub corrected_places : Correction → List ℕ
corrected_places c = take c.count (numbers c.places)

-- the corrected word
abbrev pub corrected : List ℕ → Correction → List ℕ
corrected w c = fill w (corrected_places c) (take c.count c.values)

-- no codeword agrees with w outside the places ls
abbrev pub NoneAt : ℕ → List ℕ → List ℕ → Type 0
NoneAt m w ls = (c : List ℕ) → Codeword m c → Agrees m ls w c → ⊥

-- the word with the values zs at the places ls is the one codeword that agrees with w outside them
pub record OneAt (m : ℕ) (w ls zs : List ℕ) : Type 0 where
  pub codeword : Codeword m (fill w ls zs)
  pub agrees : Agrees m ls w (fill w ls zs)
  pub only : (c : List ℕ) → Codeword m c → Agrees m ls w c → c ≡ fill w ls zs

-- two different codewords agree with w outside the places ls
pub record SeveralAt (m : ℕ) (w ls : List ℕ) : Type 0 where
  pub first : List ℕ
  pub second : List ℕ
  pub first-codeword : Codeword m first
  pub second-codeword : Codeword m second
  pub first-agrees : Agrees m ls w first
  pub second-agrees : Agrees m ls w second
  pub different : first ≢ second

-- ---- a search for a correction

-- the corrected word is the one codeword that agrees with w outside the places ls and certain extra ones, at most n; the places written are
-- distinct, and there is room for them
pub record Corrects (m : ℕ) (w ls : List ℕ) (n : ℕ) (c : Correction) : Type 0 where
  pub room : c.count ≤ unknowns
  pub below : all_below (places m) (corrected_places c) ≡ true
  pub distinct : distinct (corrected_places c) ≡ true
  pub codeword : Codeword m (corrected w c)
  pub extra : List ℕ
  pub few : length extra ≤ n
  pub agrees : Agrees m (extra ++ ls) w (corrected w c)
  pub only : (d : List ℕ) → Codeword m d → Agrees m (extra ++ ls) w d → d ≡ corrected w c

-- two different codewords agree with w outside the places ls and certain extra ones, at most n
pub record Ambiguous (m : ℕ) (w ls : List ℕ) (n : ℕ) : Type 0 where
  pub extra : List ℕ
  pub few : length extra ≤ n
  pub two : SeveralAt m w (extra ++ ls)

-- what a search with at most n extra places has found; where it is nothing, Far holds
pub record Searched (m : ℕ) (w ls : List ℕ) (n : ℕ) (Far : Type 0) (x : Solutions Correction) : Type 0 where
  pub none : x ≡ None → Far
  pub one : (c : Correction) → x ≡ One c → Corrects m w ls n c
  pub several : x ≡ Several → Ambiguous m w ls n

-- no codeword agrees with w outside the places ls and one more place p
abbrev pub NoneBeside : ℕ → List ℕ → ℕ → List ℕ → Type 0
NoneBeside m w p ls = p < places m → member p ls ≡ false → NoneAt m w (p ∷ ls)

-- no codeword agrees with w outside the places ls and at most n extra ones, in rising order, the first of them the place `from` or a later one
unfoldable pub NoneFrom : ℕ → List ℕ → List ℕ → ℕ → ℕ → Type 0
NoneFrom m w ls from zero = NoneAt m w ls
NoneFrom m w ls from (suc n) =
    NoneAt m w ls × ((p : ℕ) → from ≤ p → p < places m → member p ls ≡ false → NoneFrom m w (p ∷ ls) (p + 1) n)

-- no codeword differs from w, outside the erasures, at r places or fewer
abbrev pub NoneWithin : ℕ → List ℕ → List ℕ → ℕ → Type 0
NoneWithin m w es r = (c : List ℕ) → Near m es w r c → ⊥

-- a word and erasures that can be worked on without leaving the memory lent
pub record Workable (w es : List ℕ) : Type 0 where
  pub few : length es ≤ unknowns
  pub long : checks ≤ length w
  pub short : length w ≤ longest
  pub below : all_below (length w) es ≡ true
