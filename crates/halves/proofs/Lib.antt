-- Laws of the rounding of a quotient. What the buyer asks for by name is in Rounding.
pub mod Compare
pub mod Rounding
