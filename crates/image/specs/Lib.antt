-- Meaning: Joins, Image, Reader, Writer, RoundTrip, Numbers.
pub mod Joins
pub mod Image
pub mod Reader
pub mod Writer
pub mod RoundTrip
pub mod Numbers
