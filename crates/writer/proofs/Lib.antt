-- Laws of the writer, each file named by its subject.
pub mod Behind
pub mod Joins
pub mod Parts
pub mod Lengths
pub mod Judged
pub mod Answered
pub mod Theorems
