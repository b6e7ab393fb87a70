pub mod Stored
pub mod Sound
pub mod Ranges
pub mod Texts
pub mod Sections
