pub mod Lines
pub mod Blocks
pub mod Headings
pub mod Sections
