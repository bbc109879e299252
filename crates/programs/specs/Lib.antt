-- The definitions of the programs' promises. Assumes nothing.
pub mod Status  -- how a program ends, and the number of it
pub mod Stream  -- reading and writing: counts, failures
pub mod Arguments  -- what the arguments decide
pub mod Batches  -- from batch to batch of an input
pub mod List  -- what `cardlist` promises
pub mod Check  -- what `cardcheck` promises
pub mod Restore  -- what `cardrestore` promises
pub mod Convert  -- what `cardconvert` promises
pub mod Starts  -- what `cardstarts` promises
pub mod Sheets  -- what `cardsheets` promises
pub mod Write  -- what `cardwrite` promises
pub mod Seek  -- the number of a record in an argument, and the slot with that number
pub mod Look  -- what `cardlook` promises
pub mod Compare  -- what `cardcompare` promises
pub mod inner  -- vocabulary of inner functions
