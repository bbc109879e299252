-- The roots of a quadratic among the powers of α: by a search with shifts alone, or by the half-trace. Assumes nothing.
use Rattle.std.specs.Prelude.{◌≡◌, ◌≢◌, Option, Some, None, ℕ, ◌*◌, ◌≤◌, ◌<◌}
use Rattle.field.specs.Polynomial.{add}
use Rattle.field.specs.Field.{product, power, α}
use Rattle.field.specs.declared.Exponent.{Exponent}
use Rattle.code.specs.declared.roots.Scan.{Scan}
use Rattle.code.specs.declared.roots.RootPair.{RootPair}

-- a·x² + b·x + c at x = α^i
abbrev pub value_at : ℕ → ℕ → ℕ → ℕ → ℕ → ℕ
value_at m a b c i = add (add (product m (power m α (2 * i)) a) (product m (power m α i) b)) c

-- the two terms that the search carries are those at the exponent i
pub record Carried (m a b i d e : ℕ) : Type 0 where
  pub square : d ≡ product m (power m α (2 * i)) a
  pub linear : e ≡ product m (power m α i) b

-- there is no root from `from` on, below n
abbrev pub Rootless : ℕ → ℕ → ℕ → ℕ → ℕ → ℕ → Type 0
Rootless m a b c from n = (t : ℕ) → from ≤ t → t < n → value_at m a b c t ≢ 0

-- i is the first root from `from` on
pub record Root (m a b c from i : ℕ) : Type 0 where
  pub before : Rootless m a b c from i
  pub root : value_at m a b c i ≡ 0

-- e is the first root from `from` on, below n, if there is one
abbrev pub FirstRoot : ℕ → ℕ → ℕ → ℕ → ℕ → ℕ → Option Exponent → Type 0
FirstRoot m a b c from n None = Rootless m a b c from n
FirstRoot m a b c from n (Some e) = Root m a b c from e.0

-- the search r stands at that root
abbrev pub Scanned : ℕ → ℕ → ℕ → ℕ → ℕ → ℕ → Option Scan → Type 0
Scanned m a b c from n None = Rootless m a b c from n
Scanned m a b c from n (Some r) = Carried m a b r.at.0 r.square r.linear × Root m a b c from r.at.0

-- at width 7 all the 127 powers of α are searched for the root of a linear function, whose terms are not 0
pub record LinearRatio (m square linear constant n : ℕ) : Type 0 where
  pub width : m ≡ 7
  pub all : n ≡ 127
  pub plain : square ≡ 0
  pub factor : linear ≢ 0
  pub nonzero : constant ≢ 0
  pub symbol : constant < 128

-- a·x² + b·x + c is a times (x + α^i)(x + α^j)
pub record Factored (m a b c i j : ℕ) : Type 0 where
  pub leading : a ≢ 0
  pub sum : b ≡ product m (add (power m α i) (power m α j)) a
  pub both : c ≡ product m (product m (power m α i) (power m α j)) a

-- r are the two roots below n of such a quadratic; without r it has no two
abbrev pub TwoRoots : ℕ → ℕ → ℕ → ℕ → ℕ → Option RootPair → Type 0
TwoRoots m a b c n None = (i j : ℕ) → i < j → j < n → Factored m a b c i j → ⊥
TwoRoots m a b c n (Some r) = (i j : ℕ) → i < j → j < n → Factored m a b c i j → (r.low.0 ≡ i) × (r.high.0 ≡ j)
