-- Meaning: Kept (which zones of a job count, and the job of those zones), Returned (values not returned, and the weights that then count),
-- Answers. What private functions ask of each other: Steps.
pub mod Kept
pub mod Returned
pub mod Answers
pub mod Steps
