pub mod Layout
pub mod Asks
pub mod States
