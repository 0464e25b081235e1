-- Laws of floats and of the division, each file named by its subject. What the buyer asks for by name is in Theorems.
pub mod Distance
pub mod Between
pub mod Powers
pub mod Doublings
pub mod LongDivision
pub mod Neighbours
pub mod Fields
pub mod Rounding
pub mod NearestFloat
pub mod Unique
pub mod Signed
pub mod Sides
pub mod Accepted
pub mod Answered
pub mod Theorems
