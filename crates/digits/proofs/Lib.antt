-- Laws of numbers as they are printed, each file named by its subject.
pub mod DecimalDigits
pub mod LowDigits
pub mod Printed
