pub mod Codes
pub mod Marks
pub mod Rows
pub mod Homes
pub mod Asks
