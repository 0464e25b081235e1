-- Meaning: ClassRows.
pub mod ClassRows
