-- Meaning: EveryFigure, Demand3. What private functions ask of each other: Steps.
pub mod EveryFigure
pub mod Demand3
pub mod Steps
