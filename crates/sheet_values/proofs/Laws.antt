pub mod NumberLaws
pub mod Fields
pub mod Rows
