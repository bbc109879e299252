-- The laws that the crates above use.
pub mod Base  -- the words of the proofs: names of the kit, passed on
pub mod Check  -- a rule at every number below a bound, by one computed test
pub mod Laws  -- the laws of the field, gathered in `IsField`
pub mod Widths  -- 3, 4, 5 and 7 are such widths: `field_of`, `cubes-of`
pub mod Ask  -- what the answers to the questions say
pub mod Bytes  -- arithmetic on bytes is the field's, for symbols at a width
pub mod HalfTrace  -- the half-trace is a root of x² + x = c
pub mod Demands  -- the statements of specs/Demands.antt
pub mod Below  -- what question 7's test means for a list
pub mod Sums  -- laws of field sums
pub mod Evaluation  -- Horner's rule, and one step of the pass
pub mod Packing  -- operations act on each lane apart
pub mod Lanewise  -- masks and shifts multiply every lane by a power of α
pub mod Scaling  -- lanes times a symbol
-- the way to them, and the lemmas of the functions' proofs
mod Polynomial  -- sum and product with no carry, for all numbers
mod Ring  -- sum and product modulo a polynomial; `remainder` gives the remainder
mod Powers  -- the laws of powers
mod PowerTable  -- the table's doubling rule, computed once and carried to each exponent
mod Shifts  -- products with the first powers of α by shifts, computed at each width
mod Steps  -- one step of the loops of product and power, and the exponent of an inverse
-- sums by folds, and rows in lanes
mod Generated  -- an array that a closure makes
mod Folding  -- the lanes folded into one, by halves
mod Segments  -- the sum over eight segments of sixteen symbols
mod Relations  -- the law of the folds: the last number goes to the places of a relation
mod Filling  -- the last of the sixteen numbers
mod Values  -- numbers as twice as many halves, and the chain of folds and halvings
