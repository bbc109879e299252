-- What a text is, where an argument of a role stands, and what the roles decide. Assumes nothing.
use Rattle.field.proofs.Base.{◌≡◌, refl, sym, ◌∙◌, Bool, true, false, List, [], ◌∷◌, ℕ, ◌+◌, ◌-◌, ◌<◌, ◌≤◌, add-one, arith, eqb, take, false≢true}
use Rattle.field.proofs.Base.{eq-eqb, ne_eqb, length, get_or, drop, drop_of_length-le, drop-cons}
use Rattle.std.specs.Prelude.{Option, None, Some, is_some}
use Rattle.std.specs.Option.{option_or}
use Rattle.std.specs.List.{starts_with}
use Rattle.std.proofs.lemmas.Slice.Eq.{bytes_eq-Decides}
use Rattle.card.specs.Listing.{bytes_of}
use Rattle.code.specs.Call.{same_bytes}
use Rattle.programs.specs.declared.arguments.Role.{Role}
use Rattle.programs.specs.declared.arguments.Role.TheVariants.{Name, Operand, Unknown}
use Rattle.programs.specs.Arguments.{same_role, plain_role, argument_from, Explained}
use Rattle.programs.specs.Arguments.{reach_in, is_standard, is_device}
use Rattle.programs.specs.declared.arguments.Asked.{Asked}
use Rattle.programs.specs.declared.arguments.Asked.TheVariants.{Run, Help, Version, Wrong, Missing}
use Rattle.programs.specs.declared.status.Status.TheVariants.{NotDone}
use Rattle.code.proofs.Same.{compared}
use Rattle.programs.proofs.Choosing.{equal-yes, equal-no}

-- ---- texts

-- the role of a text that is no option that is known, by its length and its first character
pub plain-short : (text : List ℕ) → length text < 2 → Operand ≡ plain_role text
plain-short [] h = refl
plain-short (x ∷ []) h = refl
plain-short (x ∷ y ∷ text) h = absurd (omega arith)

pub plain-hyphen : (text : List ℕ) → 2 ≤ length text → get_or text 0 0 ≡ 45 → Unknown ≡ plain_role text
plain-hyphen [] h e = absurd (omega arith)
plain-hyphen (x ∷ []) h e = absurd (omega arith)
plain-hyphen (x ∷ y ∷ text) h e = equal-yes x 45 Unknown Operand e

pub plain_other : (text : List ℕ) → 2 ≤ length text → (get_or text 0 0 ≡ 45 → ⊥) → Operand ≡ plain_role text
plain_other [] h e = refl
plain_other (x ∷ []) h e = refl
plain_other (x ∷ y ∷ text) h e = equal-no x 45 Unknown Operand Operand e refl

-- a test that says yes exactly where two texts are equal
pub tested : (r : Bool) {a b : List ℕ} → (r ≡ true → a ≡ b) × (a ≡ b → r ≡ true) → r ≡ same_bytes a b
tested r {a} {b} h = compared r a b b refl h

other : (a b : List ℕ) → (a ≡ b → ⊥) → same_bytes a b ≡ false
other a b h = sym (tested false (λ e. absurd (false≢true e), λ e. absurd (h e)))

-- a reach is one of three digits
pub reach_named : (text : List ℕ) → ((c : ℕ) → 48 ≤ c → c ≤ 50 → text ≡ c ∷ [] → ⊥) → None ≡ reach_in text
unfolding reach_in
reach_named text h =
    rw (
      other text (48 ∷ []) (h 48 (omega arith) (omega arith)),
      other text (49 ∷ []) (h 49 (omega arith) (omega arith)),
      other text (50 ∷ []) (h 50 (omega arith) (omega arith)),
    )

-- standard input by a hyphen; the name of a device
pub standard-named : (place : Option ℕ) (text : List ℕ) (r : Bool) → is_some place ≡ true → r ≡ same_bytes text (bytes_of "-") → r ≡ is_standard place text
standard-named None text r h e = absurd (false≢true h)
standard-named (Some i) text r h e = e

pub device_named : (path : List ℕ) → starts_with eqb path (bytes_of "/dev/") ≡ is_device path
device_named path =
    let D = bytes_eq-Decides (bytes_of "/dev/") (take 5 path) in tested _ (λ e. sym (D.0 e), λ e. D.1 (sym e))

-- ---- places

-- the place is looked for among the arguments from i on, of which `left` more make n
module _ (roles : List Role) (role : Role) (n left i : ℕ) (inv : argument_from 0 roles role n ≡ argument_from i (drop i roles) role left) where
  module _ (h : i < length roles) where
    step : argument_from 0 roles role n ≡ argument_from i (get_or roles i Name ∷ drop (i + 1) roles) role left
    step = inv ∙ rw (add-one, drop-cons roles i Name)

    pub place_found : true ≡ same_role (get_or roles i Name) role → left ≡ 1 → Some i ≡ argument_from 0 roles role n
    unfolding argument_from
    place_found s l = sym (step ∙ rw (sym s, eq-eqb left 1 l))

    pub place-counted : true ≡ same_role (get_or roles i Name) role → (left ≡ 1 → ⊥) → (next : ℕ) → next ≡ left - 1
        → argument_from 0 roles role n ≡ argument_from (i + 1) (drop (i + 1) roles) role next
    unfolding argument_from
    place-counted s l next d = step ∙ rw (sym s, ne_eqb left 1 l, d)

    pub place-passed : false ≡ same_role (get_or roles i Name) role → (next : ℕ) → next ≡ left
        → argument_from 0 roles role n ≡ argument_from (i + 1) (drop (i + 1) roles) role next
    unfolding argument_from
    place-passed s next d = step ∙ rw (sym s, d)

  pub place_none : length roles ≤ i → None ≡ argument_from 0 roles role n
  unfolding argument_from
  place_none h = sym (inv ∙ rw (drop_of_length-le roles h))

-- the first of several places
pub or_assoc : {A : Type 0} (a b c : Option A) → option_or (option_or a b) c ≡ option_or a (option_or b c)
or_assoc None b c = refl
or_assoc (Some x) b c = refl

-- whatever was asked, it may not have been done
pub explained-undone : (a : Asked) → Explained a NotDone
explained-undone Run = refl
explained-undone Help = tt
explained-undone Version = tt
explained-undone (Wrong i) = refl
explained-undone Missing = refl
