-- A codeword without erasures stays, and the numbers with which restoring a word is refused. Assumes nothing.
use Rattle.std.proofs.Common.{Ok, Err}
use Rattle.field.specs.Question.{Verdict}
use Rattle.field.proofs.Base.{◌≡◌, refl, subst, Bool, true, false, List, [], ◌∷◌, ℕ, ◌≤◌, arith, eq-eqb, eqb, leb, length}
use lib.Dec.{leb-zero}
use Rattle.field.specs.Field.{order}
use Rattle.field.specs.Question.{Outcome, accepted, refused, refusal, ask, after, is_width, all_below}
use Rattle.field.specs.declared.Question.{Question}
use Rattle.field.specs.declared.Question.TheVariants.{Width, Length, ErasureCount, ErasurePlace, ErasureDistinct, Symbol, Reach}
use Rattle.code.specs.Word.{places, Codeword}
use Rattle.code.specs.Erasure.{member, distinct, symbols_from, changes}
use Rattle.code.specs.Near.{radius, Near, Restoration, none, one, several, restoration}
use Rattle.code.specs.Call.{max_erasures, restore_asked, followed, within_asked, decided, within_of, within_written}
use Rattle.code.specs.Demands.{Passes, PassesWithin, Nearest, RefusalNumbers, CodewordStays}
use Rattle.code.proofs.Questions.{symbols-holds}
use Rattle.code.proofs.calls.Passing.{passes-within}
use Rattle.code.proofs.restoring.Filling.{agrees-changes}
use Rattle.code.proofs.restoring.Restoring.{never-two, accepts}

-- ---- a codeword without erasures is its own near codeword, and the only one

module _ (m : ℕ) (h : is_width m ≡ true) (c : List ℕ) (C : Codeword m c) where
  codeword-passes : Passes m c []
  unfolding restore_asked
  codeword-passes =
      simp (
        h,
        eq-eqb (length c) (places m) C.size,
        leb-zero (max_erasures m),
        symbols-holds (order m) [] c (λ k l o. C.symbols k (omega (arith, C.size))),
      )

  unchanged : changes m [] c c ≤ 0
  unchanged = agrees-changes m [] c c (λ p l o. refl)

  module _ (reach : ℕ) (l : reach ≤ radius m 0) where
    passes : PassesWithin m c [] reach
    passes = passes-within m c [] reach codeword-passes l

    near : Near m [] c reach c
    near = record { codeword = C; few = omega (arith, unchanged) }

    nearest : Nearest m c [] reach c 0
    nearest =
        record {
          near = near;
          only = λ d N. never-two m c [] reach passes (omega arith) d c N near;
          count = omega (arith, unchanged);
        }

    codeword-restored : (within_of m c [] reach ≡ accepted 0) × (within_written m c [] reach ≡ c)
    codeword-restored = (accepts m c [] reach 0 c).1 (passes, nearest)

pub codeword-stays : CodewordStays
codeword-stays = codeword-restored

-- ---- the numbers of the restorer's refusals

-- a number among them
pub record Listed (n : ℕ) : Type 0 where
  pub low : 1 ≤ n
  pub high : n ≤ 16
  pub among : member n (1 ∷ 2 ∷ 3 ∷ 4 ∷ 5 ∷ 6 ∷ 7 ∷ 14 ∷ 16 ∷ []) ≡ true

abbrev Told : Outcome → Type 0
Told o = (n : ℕ) → o ≡ refused n → Listed n

told-number : (k : ℕ) → Listed k → Told (refused k)
told-number k L n e = let same : k ≡ n = cc in subst Listed same L

told-ask : (b : Bool) (q : Question) (v : Verdict) (o : Outcome) → Listed (refusal q) → Told (after v o) → Told (after (ask b q v) o)
told-ask true q v o h l = l
told-ask false q v o h l = told-number (refusal q) h

told-accepted : (k : ℕ) → Told (accepted k)
told-accepted k n e = let z : ◌≡◌ {A = ℕ} 0 1 = cc in absurd (omega arith)

told-followed : (v next : Verdict) (o : Outcome) → Told (after v (accepted 0)) → Told (after next o) → Told (after (followed v next) o)
told-followed (Ok tt) next o h l = l
told-followed (Err q) next o h l = h

told-decided : (m : ℕ) (w es : List ℕ) (x : Restoration) → Told (decided m w es x)
told-decided m w es none = told-number 7 (record { low = omega arith; high = omega arith; among = refl })
told-decided m w es (one c) = told-accepted _
told-decided m w es several = told-number 14 (record { low = omega arith; high = omega arith; among = refl })

told-asked : (m : ℕ) (w es : List ℕ) → Told (after (restore_asked m w es) (accepted 0))
unfolding restore_asked
told-asked m w es =
    told-ask (is_width m) Width _ _ (record { low = omega arith; high = omega arith; among = refl })
    (told-ask (eqb (length w) (places m)) Length _ _ (record { low = omega arith; high = omega arith; among = refl })
    (told-ask (leb (length es) (max_erasures m)) ErasureCount _ _ (record { low = omega arith; high = omega arith; among = refl })
    (told-ask (all_below (places m) es) ErasurePlace _ _ (record { low = omega arith; high = omega arith; among = refl })
    (told-ask (distinct es) ErasureDistinct _ _ (record { low = omega arith; high = omega arith; among = refl })
    (told-ask (symbols_from (order m) es 0 w) Symbol (Ok tt) _ (record { low = omega arith; high = omega arith; among = refl }) (told-accepted 0))))))

told-within : (m : ℕ) (w es : List ℕ) (reach : ℕ) → Told (within_of m w es reach)
unfolding within_asked
told-within m w es reach =
    told-followed (restore_asked m w es) _ (decided m w es (restoration m es w reach)) (told-asked m w es)
    (told-ask (leb reach (radius m (length es))) Reach (Ok tt) _ (record { low = omega arith; high = omega arith; among = refl })
    (told-decided m w es (restoration m es w reach)))

pub refusal-numbers : RefusalNumbers
refusal-numbers m w es reach n e = let L = told-within m w es reach n e in (L.low, L.high, L.among)
