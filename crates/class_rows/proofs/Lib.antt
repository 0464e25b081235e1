-- The number of a call by its sizes and by the class account.
pub mod Numbers
