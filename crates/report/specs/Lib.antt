-- What a buyer must believe of a report's text; Steps is what private functions promise each other.
pub mod Lines
pub mod Text
pub mod DocumentOne
pub mod RequestSix
pub mod Steps
