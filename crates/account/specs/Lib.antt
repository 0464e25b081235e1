-- Meaning: Measures, Limits, Refusals, Answers, Classes, Rank. What private functions ask of each other: Steps.
pub mod Measures
pub mod Limits
pub mod Refusals
pub mod Answers
pub mod Classes
pub mod Rank
pub mod Steps
