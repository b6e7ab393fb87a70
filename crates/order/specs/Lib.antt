pub mod Walk
pub mod Definitions
pub mod Turns
pub mod Relisting
pub mod Call
pub mod Inner
