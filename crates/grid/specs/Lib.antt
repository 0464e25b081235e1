-- Meaning: Moves, Grid. Working: Steps.
pub mod Moves
pub mod Grid
pub mod Steps
