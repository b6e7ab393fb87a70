pub mod Lying
pub mod Sizes
pub mod Leaves
pub mod Adds
pub mod Exprs
pub mod Sums
pub mod Bound
pub mod InBounds
