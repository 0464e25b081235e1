-- Laws of a list of shuffles, and its theorems.
pub mod ShuffleList
pub mod Theorems
