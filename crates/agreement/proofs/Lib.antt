-- Laws of the four calls together, each file named by its subject. What the buyer asks for by name is in Demand3 and Theorems.
pub mod Fitting
pub mod Answered
pub mod Demand3
pub mod Outcome
pub mod Theorems
