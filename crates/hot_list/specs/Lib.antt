-- Meaning: HotList. What private functions ask of each other: Steps.
pub mod HotList
pub mod Steps
