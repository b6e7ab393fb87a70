pub mod Sequence
pub mod Orders
pub mod Theorems
pub mod Shared
pub mod Count
