-- Vocabulary of inner functions: no contract of a call, demand or stated theorem cites it. Assumes nothing.
pub mod Parts  -- some slots, or those of a step (`StepsCounting`), restored and counted, a look at one record
