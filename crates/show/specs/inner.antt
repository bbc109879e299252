-- Vocabulary of inner functions: no contract of a call, demand or stated theorem cites it. Assumes nothing.
pub mod Room  -- how long a number is, and the lines of date and pump
pub mod Looks  -- the room for the text of a look
pub mod Comparison  -- the room for two day sheets side by side, and what their text is made from
