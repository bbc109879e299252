-- Erasures, document 01's marks: places whose symbol counts for nothing. Assumes nothing.
use Rattle.std.specs.Prelude.{Bool, true, false, cond, not, ◌&&◌, ◌||◌, List, [], ◌∷◌, ℕ, zero, suc, ◌+◌, eqb, ltb}
use Rattle.code.specs.Word.{five, places, at, syndrome}

-- the number a is in the list: of a place and the erasures, document 01's marked place
abbrev pub member : ℕ → List ℕ → Bool
member a [] = false
member a (x ∷ xs) = eqb a x || member a xs

-- question 6: the entries are all different
abbrev pub distinct : List ℕ → Bool
distinct [] = true
distinct (x ∷ xs) = not (member x xs) && distinct xs

-- question 7: every symbol outside the erasures is below q; the list of symbols starts at place k
abbrev pub symbols_from : ℕ → List ℕ → ℕ → List ℕ → Bool
symbols_from q es k [] = true
symbols_from q es k (x ∷ xs) = (ltb x q || member k es) && symbols_from q es (suc k) xs

-- the total of f 0 to f (n - 1)
unfoldable pub total : ℕ → (ℕ → ℕ) → ℕ
total zero f = 0
total (suc n) f = total n f + f n

-- 1 where the two differ
abbrev pub differ : ℕ → ℕ → ℕ
differ a b = cond (eqb a b) 0 1

-- the number of places below n, outside the erasures, at which the words w and c differ
abbrev pub changes_below : ℕ → List ℕ → List ℕ → List ℕ → ℕ
changes_below n es w c = total n (λ p. cond (member p es) 0 (differ (at w p) (at c p)))

-- the number of all such places, document 01's unmarked places changed
abbrev pub changes : ℕ → List ℕ → List ℕ → List ℕ → ℕ
changes m es w c = changes_below (places m) es w c

-- the word with 0 at the erasures
abbrev pub masked : List ℕ → (ℕ → ℕ) → ℕ → ℕ
masked es w p = cond (member p es) 0 (w p)

-- syndrome k over the places outside the erasures: an erased place counts as 0. With no erasures it is that of equation (11)
abbrev pub masked_syndrome : ℕ → List ℕ → List ℕ → ℕ → ℕ
masked_syndrome m es w k = syndrome m (masked es (at w)) k

-- the five of them
abbrev pub syndromes_without : ℕ → List ℕ → List ℕ → List ℕ
syndromes_without m es w = five (masked_syndrome m es w)
