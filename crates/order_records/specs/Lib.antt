pub mod Inner
pub mod Records
