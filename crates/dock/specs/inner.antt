-- Vocabulary of inner functions: no contract of a call, demand or stated theorem cites it. Assumes nothing.
pub mod Parts  -- restoring at a reach, and what a bay pays
