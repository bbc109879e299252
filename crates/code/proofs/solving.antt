-- Linear systems by elimination. Assumes nothing.
pub mod RowLaws  -- entries of rows and columns, a row times values
pub mod Elimination  -- a step keeps the solutions, and at the end they are read off
pub mod SolverSteps  -- the loops of the solver
pub mod LinearSystem  -- the answers for given coefficients and right-hand sides
