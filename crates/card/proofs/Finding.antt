-- The card check of a card that comes in parts. Assumes nothing.
use Rattle.std.proofs.Common.{None, Option, Some}
use Rattle.field.proofs.Base.{rules, ◌≡◌, refl, sym, ap, ap₂, ◌∙◌, subst, Bool, true, false, cond, true≢false, List, ℕ, zero, suc, ◌+◌, ◌-◌, ◌≤◌}
use Rattle.field.proofs.Base.{add-zero, arith, length}
use Rattle.card.specs.Record.{erasure_bytes, record_of}
use Rattle.card.specs.Slots.{record_count, record_at, over_first, over_slots}
use Rattle.card.specs.Card.{fine, no_bad, bad, check_of, Search, passed, named, sought, searched, answer, first_refused}
use Rattle.card.specs.Text.{Written, Appends}
use Rattle.card.specs.Checked.{outcome_line, found_line, names, Finds, behind, or_else, FirstInParts}
use Rattle.card.proofs.Folding.{over-map, in_parts, count-first}
use Rattle.card.proofs.Checking.{Means, searched-means, first_some}

-- ---- a search behind j slots, and one that has named a record

later : ℕ → Search → Search
later j (passed n) = passed (j + n)
later j (named n r) = named (j + n) r

later_more : (j : ℕ) (u : Search) (slot : List ℕ) → later j (sought u slot) ≡ sought (later j u) slot
unfolding later
later_more j (named n r) slot = refl
later_more j (passed n) slot = go (fine slot)
  where
    one : j + (n + 1) ≡ j + n + 1
    one = omega arith

    go : (b : Bool) → later j (cond b (passed (n + 1)) (named (n + 1) slot)) ≡ cond b (passed (j + n + 1)) (named (j + n + 1) slot)
    go true = ap passed one
    go false = ap (λ (x : ℕ). named x slot) one

searched-later : (j : ℕ) (part : List ℕ) → searched j part ≡ later j (searched 0 part)
unfolding later
searched-later j part =
    sym (over-map erasure_bytes sought sought (later j) (later_more j) (passed 0) part (record_count (length part))
    ∙ ap (λ (x : ℕ). searched x part) (add-zero j))

named-stays : (n : ℕ) (r part : List ℕ) (k : ℕ) → over_first erasure_bytes sought (named n r) part k ≡ named n r
unfolding over_first
named-stays n r part zero = refl
named-stays n r part (suc k) = ap (λ (u : Search). sought u (record_at part k)) (named-stays n r part k)

-- a search that has named none has passed all slots
pub passed-all : (j : ℕ) (part : List ℕ) → names (searched j part) ≡ false → searched j part ≡ passed (j + record_count (length part))
unfolding later Means
passed-all j part h = searched-later j part ∙ go (searched 0 part) (searched-means part) (ap names (sym (searched-later j part)) ∙ h)
  where
    go : (u : Search) → Means part (record_count (length part)) u → names (later j u) ≡ false → later j u ≡ passed (j + record_count (length part))
    go (passed m) M e = ap (λ (x : ℕ). passed (j + x)) M.0
    go (named m r) M e = absurd (true≢false e)

pub first-in-parts : FirstInParts
unfolding later Means
first-in-parts a b j whole = ap answer (in_parts sought a b j whole (passed 0)) ∙ go (searched 0 a) (searched-means a)
  where
    number : (u : Search) → answer (later j u) ≡ behind j (answer u)
    number (passed n) = refl
    number (named n r) = refl

    go : (u : Search) → Means a (record_count (length a)) u → answer (over_slots sought u b) ≡ or_else (answer u) (behind j (first_refused b))
    go (named m r) M = ap answer (named-stays m r b (record_count (length b)))
    go (passed m) M =
        ap (λ (x : ℕ). answer (searched x b)) (M.0 ∙ count-first a b j whole) ∙ ap answer (searched-later j b) ∙ number (searched 0 b)

-- ---- one part, where so many slots stand before it

-- where the record stands that the check names
module _ (part : List ℕ) (x : Option ℕ) (e : check_of x ≡ first_refused part) (k : ℕ) (p : x ≡ Some k) where
  is-named : first_refused part ≡ bad k
  is-named = sym e ∙ ap check_of p

  pub named-low : 1 ≤ k
  named-low = ((first_some part k).0 is-named).number

  pub named-high : k ≤ record_count (length part)
  named-high = ((first_some part k).0 is-named).inside

module _ (before : ℕ) (part : List ℕ) (x : Option ℕ) (e : check_of x ≡ first_refused part) where
  pub finds-none : x ≡ None → (out : Written) → Finds (searched before part) out false out
  unfolding later
  finds-none p out = rw (searched-later before part) (go (searched 0 part) (sym (ap check_of (sym p) ∙ e)))
    where
      go : (u : Search) → answer u ≡ no_bad → Finds (later before u) out false out
      go (passed n) f = record { named = refl; text = search rules }
      go (named n r) f = let z : ◌≡◌ {A = ℕ} 0 1 = cc in absurd (omega arith)

  pub finds-some : (k : ℕ) → x ≡ Some k → (bytes : List ℕ) → bytes ≡ record_at part (k - 1) → {old new : Written}
      → Appends old (outcome_line (before + k) (record_of bytes)) new → Finds (searched before part) old true new
  unfolding later Means
  finds-some k p bytes eb {old} {new} w = rw (searched-later before part) (go (searched 0 part) (searched-means part) (is-named part x e k p))
    where
      go : (v : Search) → Means part (record_count (length part)) v → answer v ≡ bad k → Finds (later before v) old true new
      go (passed n) M f = let z : ◌≡◌ {A = ℕ} 0 1 = cc in absurd (omega arith)
      go (named n r) M f =
          let same : n ≡ k = cc in
          record {
            named = refl;
            text = subst (λ (l : List ℕ). Appends old l new)
                (ap₂ (λ (m : ℕ) (s : List ℕ). outcome_line (before + m) (record_of s)) (sym same)
                (eb ∙ ap (λ (m : ℕ). record_at part (m - 1)) (sym same) ∙ sym M.2)) w;
          }

-- ---- what the text says of the search

-- nothing is written where no record is named
module _ (u : Search) {old new : Written} {any : Bool} (F : Finds u old any new) where
  pub found_none : any ≡ false → (names u ≡ false) × (new ≡ old)
  found_none t = go u (sym F.named ∙ t) F.text
    where
      go : (v : Search) → names v ≡ false → Appends old (found_line v) new → (names v ≡ false) × (new ≡ old)
      go (passed n) h w = (refl, search rules)
      go (named n s) h w = absurd (true≢false h)
