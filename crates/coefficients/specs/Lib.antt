-- Meaning: Coefficients, FloatReport. What private functions ask of each other: Steps.
pub mod Coefficients
pub mod FloatReport
pub mod Steps
