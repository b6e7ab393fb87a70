pub mod Agrees
pub mod Chains
pub mod Changes
pub mod Enclosing
pub mod Outers
pub mod Spans
