pub mod Trees
pub mod Traverse
pub mod Paths
pub mod Statements
pub mod Scopes
pub mod Gather
pub mod Inner
