pub mod Levels
pub mod Laws
