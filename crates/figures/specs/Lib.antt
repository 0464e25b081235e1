-- Document 01's "Figures at the edges", the cases that it wants proved together, and its worked report.
pub mod Figures
pub mod WorkedReport
