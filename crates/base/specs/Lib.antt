pub mod Limits
pub mod Refusals
pub mod Lists
pub mod Sets
pub mod Inner
