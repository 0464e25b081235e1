-- Meaning: Bits, Nearest, Sides, Answers. What private functions ask of each other: Steps.
pub mod Bits
pub mod Nearest
pub mod Sides
pub mod Answers
pub mod Steps
