pub mod Rows
pub mod Ranges
pub mod Lines
pub mod Sound
pub mod Texts
pub mod Listed
pub mod Agrees
pub mod Sections
