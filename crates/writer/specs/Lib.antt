-- Meaning: Answers. Steps is what private functions ask of each other.
pub mod Answers
pub mod Steps
