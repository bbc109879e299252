-- Vocabulary of inner functions: no contract of a call, demand or stated theorem cites it. Assumes nothing.
pub mod Room  -- how long lines are, how far numbers may grow
pub mod Parts  -- parts of a record and of a card
pub mod Leading  -- how many questions some slots pass
