-- Laws of the kept zones: Passing (the numbers that pass a test), KeptZones (their lists), KeptShuffle (a shuffle of them), KeptFirst (an
-- order), Marks (what the code marks), Sized (a call whose lists fit). Of values not returned: Missing (what the code tests of one), Reduced
-- (the weights that then count).
pub mod Passing
pub mod KeptZones
pub mod KeptShuffle
pub mod KeptFirst
pub mod Marks
pub mod Sized
pub mod Missing
pub mod Reduced
