-- Meaning: Places, Gabriel, Bands. What private functions ask of each other: Steps.
pub mod Places
pub mod Gabriel
pub mod Bands
pub mod Steps
