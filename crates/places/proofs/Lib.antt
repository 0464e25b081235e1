-- Laws of distances, circles and classes, and of an accepted call, each file named by its subject. What the buyer asks for by name is in
-- the file of theorems.
pub mod Coordinates
pub mod Distance
pub mod Circles
pub mod Classes
pub mod Accepted
pub mod Theorems
