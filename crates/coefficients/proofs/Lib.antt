-- Laws of the float report, each file named by its subject.
pub mod NineRows
pub mod Ratios
pub mod Job
pub mod Answered
pub mod Readable
