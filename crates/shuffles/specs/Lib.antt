-- Meaning: Shuffles. What functions that read a row of the list ask: Steps.
pub mod Shuffles
pub mod Steps
