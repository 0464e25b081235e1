-- What a buyer must believe of the judges.
pub mod Sizes
pub mod Values
