pub mod Truth
pub mod Lists
pub mod Ranges
pub mod Members
pub mod Subsets
pub mod Mapping
pub mod ListLaws
