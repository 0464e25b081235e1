-- What a buyer must believe of refusals.
pub mod Refusals
