-- Laws of the definitions.
pub mod Beyond
pub mod Filled
pub mod PartFilled
