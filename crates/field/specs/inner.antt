-- Vocabulary of inner functions: no contract of a call, demand or stated theorem cites it. Assumes nothing.
pub mod Operand  -- a symbol at a width of the field
pub mod Bytes  -- arithmetic below the questions, on every byte
pub mod HalfTrace  -- the half-trace
pub mod Lanes  -- symbols in the bytes of one number
pub mod Folds  -- the sums by folds: fewer numbers, the same sums
