-- What a buyer must believe of the calls for other software; Steps is what private functions promise each other.
pub mod Jobs
pub mod Floats
pub mod Images
pub mod Steps
