pub mod Members
pub mod Numbers
