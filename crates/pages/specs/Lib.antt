-- What a buyer must believe of text in a page.
pub mod Lines
pub mod Pages
