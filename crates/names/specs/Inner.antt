pub mod Sets
pub mod Lowest
pub mod Zipped
pub mod Members
pub mod Names
