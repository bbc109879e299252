pub mod Polynomial  -- polynomials over GF(2) as numbers: sum, product with no carry
pub mod Field  -- the field's polynomials, product, power and inverse, α
pub mod Question  -- the questions, their refusal numbers, and what a call answers
pub mod Answer  -- what each call of the field answers
pub mod Laws  -- the laws of a field, which the code uses
pub mod Demands  -- what is promised of the field, and of the refusal numbers
pub mod Sum  -- field sums, and weighted sums of symbols
pub mod inner  -- vocabulary of inner functions, which no contract of a call, demand or stated theorem cites
