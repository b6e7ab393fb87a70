pub mod Writes
pub mod Kept
