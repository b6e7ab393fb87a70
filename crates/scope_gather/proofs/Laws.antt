pub mod Bodies
pub mod Locals
pub mod Queries
pub mod Statements
