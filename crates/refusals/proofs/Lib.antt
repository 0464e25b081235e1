-- Laws of refusals.
pub mod Refusals
pub mod Unrefused
