-- The definitions of the walk over a card, and of a look at a record. Assumes nothing.
pub mod Restored  -- a card restored, also up to a longest reach, and some of its slots in their place
pub mod Walk  -- a step (`Steps`), steps one after the other, over other cards, and in any states
pub mod Look  -- a look at a record, with a lent row (`Looks`) or one by value (`LooksAt`)
pub mod Counting  -- a card restored up to a longest reach and counted as a listing does (`CountsCard`), and the last line
pub mod Demands  -- what is asked of walks and looks
pub mod inner  -- vocabulary of inner functions, which no contract of a call, demand or stated theorem cites
