pub mod Assigned
pub mod Inputs
pub mod Loops
pub mod Vars
