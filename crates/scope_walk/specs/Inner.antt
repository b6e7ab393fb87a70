pub mod Asks
pub mod Exprs
pub mod Kids
pub mod Onwards
pub mod Patterns
pub mod Sheets
pub mod Walking
pub mod Walks
