-- That the table is right.
pub mod Computed
pub mod Printed
