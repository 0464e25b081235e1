-- Laws of what is put into a page, and of the lines of a report.
pub mod Puts
pub mod LineLaws
pub mod Listed
pub mod Classing
pub mod Desks
pub mod JobText
pub mod ReadJob
pub mod Printing
pub mod FirstBytes
pub mod AllKept
pub mod AllReturned
pub mod Theorems
