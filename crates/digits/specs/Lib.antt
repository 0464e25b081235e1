-- What a buyer must believe of numbers as they are printed.
pub mod Digits
