-- Meaning: Joins. What private functions ask of each other: Steps.
pub mod Joins
pub mod Steps
