-- The theorems of the grid, and the laws that they and the functions rest on.
pub mod Zones
pub mod Moves
pub mod Marking
pub mod Theorems
