pub mod Counts
pub mod Bases
pub mod Concluded
pub mod Asks
