-- Finding the wrong places from the syndromes. Assumes nothing.
pub mod Locator  -- two points from four power sums: a quadratic that is 0 at them alone
pub mod Pattern  -- errors as values at places: the syndromes combine the columns there
pub mod Locating  -- of each codeword within two places a test names just its places
pub mod Times  -- a symbol times a column, by adding exponents
pub mod Scanning  -- the search for roots, and the one root of a linear function
pub mod Finding  -- the places found are those that the tests name
pub mod Quadratic  -- the two roots of a quadratic, by search and by the half-trace
pub mod Adding  -- what is added at a few places makes a codeword
pub mod PlainWays  -- the ways out of the search without erasures
pub mod Ratios  -- erased places eliminated from the sums, and the ratio of what is left
pub mod BesideErasures  -- a codeword within one place beside erasures: its place is named
pub mod Cubes  -- where the distance is 5, cubing is one to one: `cubes-five`
pub mod BesideWays  -- the ways out of the search beside erasures
pub mod CheckPlaces  -- the check places that come into question beside erasures
