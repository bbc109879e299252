-- The statements of specs/Demands.antt, each under its name in small letters. Assumes nothing.
use Rattle.std.proofs.Common.{Ok, Err}
use Rattle.field.specs.Question.{Verdict}
use Rattle.field.proofs.Base.{◌≡◌, refl, sym, ap, ◌∙◌, subst, ◌≢◌, Bool, true, cond, not, [], ◌∷◌, ℕ, ◌<◌, arith, lt-ltb, ne_eqb, eqb-false}
use Rattle.field.proofs.Base.{not-true, eqb, lit<}
use Rattle.field.specs.inner.Operand.{arithmetic}
use Rattle.field.specs.Polynomial.{add, carryless}
use Rattle.field.specs.Field.{order, polynomial, product, inverse}
use Rattle.field.specs.Question.{Outcome, accepted, refusal, ask, after, is_width, all_below}
use Rattle.field.specs.Answer.{operands}
use Rattle.field.specs.declared.Question.{Question}
use Rattle.field.specs.declared.Question.TheVariants.{Width, Length, ErasureCount, Padding, ErasurePlace, ErasureDistinct, Symbol, Correctable, Syndrome, Nonzero}
use Rattle.field.specs.declared.Question.TheVariants.{SheetWidth, Date, Unused, Unique, FourErasures, Reach, RecordNumber, Bay, Rewrite, SameDay, Window}
use Rattle.field.specs.Demands.{NumbersTell, NumbersRange, PowersOfAlpha, AlphaGenerates, CarrylessSteps, Symbols, ProductRemainder}
use Rattle.field.specs.Demands.{InverseInverts, FieldLaws, CubesOdd, CubesFour}
use Rattle.field.proofs.Below.{all_below-means}
use Rattle.field.proofs.Ask.{ask-yes, ask-next}
use Rattle.field.proofs.Polynomial.{carryless-zero-l, carryless-step}
use Rattle.field.proofs.Ring.{division, remainder-unique}
use Rattle.field.proofs.Widths.{field_of, cubes-of}

-- ---- refusal numbers

-- the question of a number
abbrev numbered : ℕ → Question
numbered n =
    cond (eqb n 1) Width (cond (eqb n 2) Length (cond (eqb n 3) ErasureCount (cond (eqb n 4) ErasurePlace (cond (eqb n 5) ErasureDistinct
    (cond (eqb n 6) Symbol (cond (eqb n 7) Correctable (cond (eqb n 8) Padding (cond (eqb n 9) Syndrome (cond (eqb n 10) Nonzero
    (cond (eqb n 11) SheetWidth (cond (eqb n 12) Date (cond (eqb n 13) Unused (cond (eqb n 14) Unique (cond (eqb n 15) FourErasures
    (cond (eqb n 16) Reach (cond (eqb n 17) RecordNumber (cond (eqb n 18) Bay (cond (eqb n 19) Rewrite (cond (eqb n 20) SameDay
    Window)))))))))))))))))))

back : (q : Question) → numbered (refusal q) ≡ q
back Width = refl
back Length = refl
back ErasureCount = refl
back Padding = refl
back ErasurePlace = refl
back ErasureDistinct = refl
back Symbol = refl
back Correctable = refl
back Syndrome = refl
back Nonzero = refl
back SheetWidth = refl
back Date = refl
back Unused = refl
back Unique = refl
back FourErasures = refl
back Reach = refl
back RecordNumber = refl
back Bay = refl
back Rewrite = refl
back SameDay = refl
back Window = refl

pub numbers-tell : NumbersTell
numbers-tell q q' e = sym (back q) ∙ ap numbered e ∙ back q'

pub numbers-range : NumbersRange
numbers-range Width = (omega arith, omega arith)
numbers-range Length = (omega arith, omega arith)
numbers-range ErasureCount = (omega arith, omega arith)
numbers-range Padding = (omega arith, omega arith)
numbers-range ErasurePlace = (omega arith, omega arith)
numbers-range ErasureDistinct = (omega arith, omega arith)
numbers-range Symbol = (omega arith, omega arith)
numbers-range Correctable = (omega arith, omega arith)
numbers-range Syndrome = (omega arith, omega arith)
numbers-range Nonzero = (omega arith, omega arith)
numbers-range SheetWidth = (omega arith, omega arith)
numbers-range Date = (omega arith, omega arith)
numbers-range Unused = (omega arith, omega arith)
numbers-range Unique = (omega arith, omega arith)
numbers-range FourErasures = (omega arith, omega arith)
numbers-range Reach = (omega arith, omega arith)
numbers-range RecordNumber = (omega arith, omega arith)
numbers-range Bay = (omega arith, omega arith)
numbers-range Rewrite = (omega arith, omega arith)
numbers-range SameDay = (omega arith, omega arith)
numbers-range Window = (omega arith, omega arith)

-- ---- α

pub powers-of-alpha : PowersOfAlpha
unfolding arithmetic
powers-of-alpha = refl

pub alpha-generates : AlphaGenerates
alpha-generates m h =
    let F = field_of m h in
    record {
      symbols = λ k. (F.power-lt _ k, F.α-nonzero k);
      every = F.α-generates;
      once = F.α-distinct;
      anew = F.α-cycle;
    }

-- ---- product and inverse

pub carryless-steps : CarrylessSteps
carryless-steps a b = (carryless-zero-l b, carryless-step a b)

-- a call whose verdict is given and that answers a value has passed its questions
answered : (v : Verdict) (o : Outcome) (r : ℕ) → after v o ≡ accepted r → (v ≡ (Ok tt)) × (o ≡ accepted r)
answered (Ok tt) o r e = (refl, e)
answered (Err q) o r e = let z : ◌≡◌ {A = ℕ} 0 1 = cc in absurd (omega arith)

module _ (m a b : ℕ) where
  pair-symbols : operands m (a ∷ b ∷ []) ≡ (Ok tt) → Symbols m a b
  unfolding operands
  pair-symbols p =
      let below = ask-yes (all_below (order m) (a ∷ b ∷ [])) Symbol (Ok tt) (ask-next (is_width m) Width _ p) in
      record {
        width = ask-yes (is_width m) Width _ p;
        first = all_below-means (order m) (a ∷ b ∷ []) below 0 (lit< tt);
        second = all_below-means (order m) (a ∷ b ∷ []) below 1 (lit< tt);
      }

  symbols-pair : Symbols m a b → operands m (a ∷ b ∷ []) ≡ (Ok tt)
  unfolding operands
  symbols-pair S = simp (S.width, lt-ltb a (order m) S.first, lt-ltb b (order m) S.second)

pub product-remainder : ProductRemainder
unfolding product
product-remainder m a b r = (
  λ e.
      let p = answered (operands m (a ∷ b ∷ [])) (accepted (product m a b)) r e in
      let S = pair-symbols m a b p.0 in
      let F = field_of m S.width in
      let D = division m F.positive (carryless a b) in
      let same : product m a b ≡ r = cc in (
        S,
        record {
          below = subst (λ (x : ℕ). x < order m) same (F.product_lt a b);
          quotient = D.0;
          divided = D.1 ∙ ap (add (carryless D.0 (polynomial m))) same;
        },
      ),
  λ h.
      let R = h.1 in
      ap (λ (v : Verdict). after v (accepted (product m a b))) (symbols-pair m a b h.0)
      ∙ ap accepted (remainder-unique m (field_of m h.0.width).positive (carryless a b) R.quotient r R.below R.divided),
)

module _ (m a : ℕ) where
  one_symbol : operands m (a ∷ []) ≡ (Ok tt) → (is_width m ≡ true) × (a < order m)
  unfolding operands
  one_symbol p = (
    ask-yes (is_width m) Width _ p,
    all_below-means (order m) (a ∷ []) (ask-yes (all_below (order m) (a ∷ [])) Symbol (Ok tt) (ask-next (is_width m) Width _ p)) 0 (lit< tt),
  )

  symbol-one : is_width m ≡ true → a < order m → operands m (a ∷ []) ≡ (Ok tt)
  unfolding operands
  symbol-one h l = simp (h, lt-ltb a (order m) l)

  -- question 10 and the inverse
  abbrev inverted : Outcome
  inverted = after (ask (not (eqb a 0)) Nonzero (Ok tt)) (accepted (inverse m a))

pub inverse-inverts : InverseInverts
inverse-inverts m a b = (
  λ e.
      let p = answered (operands m (a ∷ [])) (inverted m a) b e in
      let t = answered (ask (not (eqb a 0)) Nonzero (Ok tt)) (accepted (inverse m a)) b p.1 in
      let n : a ≢ 0 = eqb-false a 0 (not-true (eqb a 0) (ask-yes (not (eqb a 0)) Nonzero (Ok tt) t.0)) in
      let h = one_symbol m a p.0 in
      let F = field_of m h.0 in
      let same : inverse m a ≡ b = cc in
      let S : Symbols m a b = record { width = h.0; first = h.1; second = subst (λ (x : ℕ). x < order m) same (F.inverse-lt a) } in
      ap (λ (v : Verdict). after v (accepted (product m a b))) (symbols-pair m a b S)
      ∙ ap accepted (ap (product m a) (sym same) ∙ F.product-inverse a n h.1),
  λ e.
      let p = answered (operands m (a ∷ b ∷ [])) (accepted (product m a b)) 1 e in
      let S = pair-symbols m a b p.0 in
      let F = field_of m S.width in
      let one : product m a b ≡ 1 = cc in
      let n : a ≢ 0 = λ z. (let o : ◌≡◌ {A = ℕ} 0 1 = sym (F.zero-product b) ∙ ap (λ (x : ℕ). product m x b) (sym z) ∙ one in omega arith) in
      ap (λ (v : Verdict). after v (inverted m a)) (symbol-one m a S.width S.first)
      ∙ ap (λ (t : Bool). after (ask (not t) Nonzero (Ok tt)) (accepted (inverse m a))) (ne_eqb a 0 n)
      ∙ ap accepted (F.product-cancel a (inverse m a) b n S.first (F.inverse-lt a) S.second (F.product-inverse a n S.first ∙ sym one)),
)

-- ---- the laws

pub field_laws : FieldLaws
field_laws = field_of

pub cubes-odd : CubesOdd
cubes-odd = cubes-of

pub cubes-four : CubesFour
unfolding arithmetic
cubes-four = (refl, refl, λ c. (let z : ◌≡◌ {A = ℕ} 6 1 = c 6 1 (lit< tt) (lit< tt) refl in omega arith))
