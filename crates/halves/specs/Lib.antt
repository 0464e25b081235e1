-- What a buyer must believe of the rounding of a quotient.
pub mod Halves
