-- Laws of the join table, and its theorems.
pub mod Counted
pub mod Accepted
pub mod Theorems
