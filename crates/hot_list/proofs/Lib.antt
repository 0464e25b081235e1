-- The order of the hot list, what `order` leaves, the call by the account's answer, and the theorems.
pub mod HotOrder
pub mod RowSums
pub mod Sorted
pub mod Standings
pub mod Ordered
pub mod Answered
pub mod HotTheorems
