-- Definitions that the other crates' meaning is written with. Their laws are in the file of the same name under proofs/.
pub mod Integer
pub mod Sum
pub mod Table
pub mod Search
pub mod Order
pub mod Rules
pub mod Network
