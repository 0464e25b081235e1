-- Laws of what is put into a page, and of how many bytes a field has.
pub mod Puts
pub mod Widths
