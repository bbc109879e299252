-- The definitions of dates and day sheets. Assumes nothing.
pub mod Calendar  -- leap years, the days of a month, dates that exist (question 12)
pub mod Sheet  -- the named places of a sheet's symbols, the sheet of some symbols, the symbols of a word
pub mod Call  -- writing and reading: questions, answer, the lent memory afterwards
pub mod Demands  -- what is written and read, that each undoes the other, and the days of some years
