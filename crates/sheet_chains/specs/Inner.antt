pub mod Members
pub mod Numbers
pub mod Asks
