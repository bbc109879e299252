-- One wrong data place beside erasures, by a ratio of the syndromes s without the erasures. Assumes nothing.
use Rattle.std.specs.Prelude.{◌≡◌, ◌≢◌, true, false, List, [], ◌∷◌, ℕ, ◌+◌, ◌-◌, ◌≤◌, ◌<◌, set}
use Rattle.field.specs.Polynomial.{add}
use Rattle.field.specs.Field.{order, product, power}
use Rattle.field.specs.Question.{all_below}
use Rattle.code.specs.Word.{checks, places, items, five, at}
use Rattle.code.specs.Erasure.{member}
use Rattle.code.specs.inner.Correction.{NoneAt, NoneBeside}
use Rattle.code.specs.declared.beside.Span.{Span}
use Rattle.code.specs.inner.Scan.{value_at}
use Rattle.code.specs.inner.Locate.{point}

-- raising to the power g is one to one
abbrev pub Injective : ℕ → ℕ → Type 0
Injective m g = (x y : ℕ) → x < order m → y < order m → power m x g ≡ power m y g → x ≡ y

-- the sums with the point z eliminated, from rows h apart
unfoldable pub eliminate : ℕ → ℕ → ℕ → (ℕ → ℕ) → ℕ → ℕ
eliminate m h z s k = add (s (h + k)) (product m (power m z h) (s k))

-- high and low have the ratio of the data place b to the power g, and of no other
pub record Step (m g low high b : ℕ) : Type 0 where
  pub small : low < order m
  pub nonzero : low ≢ 0
  pub next : high ≡ product m (power m (point m b) g) low
  pub only : (t : ℕ) → checks ≤ t → t < places m → t ≢ b → high ≢ product m (power m (point m t) g) low

-- the erasures es in another order
pub data Arranged : List ℕ → List ℕ → Type 0 where
  same : {es : List ℕ} → Arranged es es
  swapped : {x y : ℕ} → Arranged (x ∷ y ∷ []) (y ∷ x ∷ [])

-- rows k, g + k, and both h further on, are there, and not erased
pub record Rows (cs : List ℕ) (h g k : ℕ) : Type 0 where
  pub row : member k cs ≡ false
  pub row-h : member (h + k) cs ≡ false
  pub row-g : member (g + k) cs ≡ false
  pub row-hg : member (h + (g + k)) cs ≡ false
  pub last : h + (g + k) < checks

-- what the sums outside the erasures es tell of the wrong data place b, for whichever rows are looked at
pub record DataNamed (m : ℕ) (es : List ℕ) (s : ℕ → ℕ) (b : ℕ) : Type 0 where
  -- check places are erased, or nothing
  pub beside-checks : all_below checks es ≡ true → (g k : ℕ) → Injective m g → Rows es 0 g k → Step m g (s k) (s (g + k)) b
  -- the data place a is erased, and check places
  pub beside-data : (a : ℕ) (cs : List ℕ) → Arranged es (a ∷ cs) → checks ≤ a → all_below checks cs ≡ true
      → (h g k : ℕ) → Injective m h → Injective m g → Rows cs h g k
      → Step m g (eliminate m h (point m a) s k) (eliminate m h (point m a) s (g + k)) b
  -- two data places are erased
  pub beside_two : (a c : ℕ) → es ≡ a ∷ c ∷ [] → checks ≤ a → checks ≤ c → (k : ℕ) → 3 + k < checks
      → Step m 1 (eliminate m 1 (point m c) (eliminate m 1 (point m a) s) k) (eliminate m 1 (point m c) (eliminate m 1 (point m a) s) (1 + k)) b

-- the quadratic with these coefficients has one root, at the data place b
pub record OneRoot (m u v c b : ℕ) : Type 0 where
  pub small : (u < order m) × (v < order m)
  pub root : value_at m u v c (b - checks) ≡ 0
  pub only : (i : ℕ) → i < items m → i ≢ b - checks → value_at m u v c i ≢ 0

-- no codeword agrees with w outside the erasures and the one root
abbrev pub NoneRoot : ℕ → List ℕ → List ℕ → ℕ → ℕ → ℕ → Type 0
NoneRoot m w es u v c = (b : ℕ) → checks ≤ b → b < places m → member b es ≡ false → OneRoot m u v c b → NoneAt m w (b ∷ es)

-- nor outside the erasures and a check place
abbrev pub NoneCheck : ℕ → List ℕ → List ℕ → Type 0
NoneCheck m w es = (b : ℕ) → b < checks → NoneBeside m w b es

-- nor outside the erasures and a check place before low, or from high on
abbrev pub NoneOutside : ℕ → List ℕ → List ℕ → ℕ → ℕ → Type 0
NoneOutside m w es low high = (b : ℕ) → b < checks → (low ≤ b → b < high → ⊥) → NoneBeside m w b es

-- each of the rows u that is not 0 tells that no check place is wrong but one of the n from it on
abbrev pub Tell : ℕ → List ℕ → List ℕ → ℕ → (ℕ → ℕ) → Type 0
Tell m w es n u = (k : ℕ) → k + n ≤ checks → u k ≢ 0 → NoneOutside m w es k (k + n)

-- nor outside the erasures and the data place that the sums name
abbrev pub NoneData : ℕ → List ℕ → List ℕ → (ℕ → ℕ) → Type 0
NoneData m w es s = (b : ℕ) → checks ≤ b → b < places m → member b es ≡ false → DataNamed m es s b → NoneAt m w (b ∷ es)

-- rows are what is left of the syndromes s without the erasures es: without one, or without two data places
pub record Eliminated (m : ℕ) (es s rows : List ℕ) : Type 0 where
  pub check : (c : ℕ) → es ≡ c ∷ [] → c < checks → rows ≡ set s c 0
  pub one : (a : ℕ) → es ≡ a ∷ [] → checks ≤ a → rows ≡ five (eliminate m 1 (point m a) (at s))
  pub two : (a c : ℕ) → es ≡ a ∷ c ∷ [] → checks ≤ a → checks ≤ c
      → rows ≡ five (eliminate m 1 (point m c) (at (five (eliminate m 1 (point m a) (at s)))))

-- of the check places, es has none but c and d
abbrev pub Only : List ℕ → ℕ → ℕ → Type 0
Only es c d = (k : ℕ) → k < checks → k ≢ c → k ≢ d → member k es ≡ false

-- the rows of r are two apart at most, and neither is c or d
pub record Between (c d : ℕ) (r : Span) : Type 0 where
  pub fits : r.gap + r.from < checks
  pub gap : (0 < r.gap) × (r.gap < 3)
  pub low : (r.from ≢ c) × (r.from ≢ d)
  pub high : (r.gap + r.from ≢ c) × (r.gap + r.from ≢ d)

-- the rows of r, and those behind them, are none of them c; they are one apart, or three where c is 2
pub record Apart (c : ℕ) (r : Span) : Type 0 where
  pub fits : r.gap + (1 + r.from) < checks
  pub gap : (r.gap ≡ 1 → ⊥) → (r.gap ≡ 3) × (c ≡ 2)
  pub low : (r.from ≢ c) × (1 + r.from ≢ c)
  pub high : (r.gap + r.from ≢ c) × (r.gap + (1 + r.from) ≢ c)
