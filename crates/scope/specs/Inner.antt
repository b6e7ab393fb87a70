pub mod Below
pub mod Shadowed
