pub mod Inner
pub mod Widths
