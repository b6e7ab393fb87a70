pub mod FineFields
pub mod Levels
pub mod Facts
