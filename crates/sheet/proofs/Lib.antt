-- Laws of the calendar and of day sheets, and the demands. Assumes nothing.
pub mod Dates  -- the calendar as it is computed
pub mod Asking  -- one law for each way out of the functions that put the questions
pub mod Sheets  -- what passes the questions, what passing tells, and that each call undoes the other
pub mod Calls  -- from the questions' answers to the contracts
pub mod Demands  -- every demand, under its name in small letters
