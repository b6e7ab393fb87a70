pub mod Counts
pub mod Bases
pub mod SameOrder
pub mod RowsOf
pub mod Places
pub mod Answers
pub mod Concluded
pub mod Entering
