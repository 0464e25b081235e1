-- Meaning: Words.
pub mod Words
