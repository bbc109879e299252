-- The words of the proofs: names of the kit that many files use, passed on. Assumes nothing.
pub use Prim.Native.Nat.{◌%◌, ◌*◌, ◌+◌, ◌-◌, ◌/◌, ◌<◌, ◌^◌, ◌≤◌, min, suc, zero, zero-le, ℕ}
pub use borrow.Author.Rules.{rules}
pub use borrow.Author.Tests.{eq-eqb, eqb-false, eqb-true, le-leb, le-ltb, leb-true, lt-leb, lt-ltb, ltb-false, ltb-true, ne_eqb, not-false, not-true}
pub use lib.Dec.{T, eqb, eqb→eq, leb, lit<, ltb}
pub use lib.ListN.{drop, drop_of_length-le, get_or, length, length-append, length-drop, length-replicate, length-set, length-take, replicate, set, take}
pub use lib.ListN.{take-append-drop}
pub use lib.Seq.{drop_at, drop-cons, drop-drop, ext_get_or, get_or-drop, get_or-set_other, get_or-set_same, get_or-take, length-take-le, take_all, take_at}
pub use mathlib.Core.Bool.{Bool, ◌&&◌, ◌||◌, cond, false, false≢true, not, true, true≢false}
pub use mathlib.Core.List.{List, [], ◌++◌, ◌∷◌, append_assoc, append-nil, map}
pub use mathlib.Core.Logic.{◌≢◌, ◌⊎◌, inl, inr, ⊎_elim}
pub use mathlib.Core.Path.{◌∙◌, ◌≡◌, ap, ap₂, refl, subst, sym}
pub use native.Mathlib.Decide.{dec_lt, ℕ_discrete}
pub use native.Mathlib.Nat.{add-zero, le_of_suc-le-suc, le_refl, mod-eq_of_lt, not-suc-le-zero, zero-mul}
pub use native.Mathlib.Numerals.{add-one}
pub use native.Mathlib.Omega.{arith}
