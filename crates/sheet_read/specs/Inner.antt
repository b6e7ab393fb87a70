pub mod Verdict
pub mod Asked
