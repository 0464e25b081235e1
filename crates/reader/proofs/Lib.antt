-- The theorems of the reader, and the laws that they and the functions rest on.
pub mod Chain
pub mod Fronts
pub mod Items
pub mod JoinOrder
pub mod JoinsPut
pub mod Theorems
pub mod Triples
