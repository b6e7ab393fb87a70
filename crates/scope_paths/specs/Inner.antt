pub mod Builtins
pub mod Extra
pub mod Paths
