pub mod Each
pub mod Front
pub mod Records
pub mod FirstUse
pub mod Checks
pub mod SomeVars
pub mod Least
