-- The definitions of the dock: its rewrites, a bay's call, and runs of calls. Assumes nothing.
pub mod Dock  -- the rewrites of a charge, what one costs, and a bay's call (`Serves`)
pub mod Run  -- calls one after the other, their history, and the rewrites used
pub mod Demands  -- what is asked of runs and of single calls
pub mod inner  -- vocabulary of inner functions, which no contract of a call, demand or stated theorem cites
