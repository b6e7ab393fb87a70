pub mod FirstSection
pub mod Spelling
pub mod Order
pub mod Checking
pub mod Finding
