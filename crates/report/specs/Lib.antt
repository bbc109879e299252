-- The definitions of day sheets on cards. Assumes nothing.
pub mod Day  -- a slot by its number, and a record restored in a copy and read as a day sheet
pub mod Compare  -- two sheets: signs, totals, the choice, the part that is handed back (`HandsBack`)
pub mod Window  -- a window, the counts of a sheet in it, the report as a fold over a card's slots (`ReportsWindow`)
pub mod Table  -- the report as text
pub mod Quarter  -- the two texts of a quarter hour
pub mod Demands  -- what is asked of comparisons, of a report, of dates and of a quarter hour's texts
pub mod inner  -- vocabulary of inner functions, which no contract of a call, demand or stated theorem cites
