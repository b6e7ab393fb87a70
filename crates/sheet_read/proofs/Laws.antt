pub mod ReadRows
pub mod Asked
pub mod Leaving
pub mod TextLines
pub mod LineBounds
pub mod Passed
pub mod Ways
