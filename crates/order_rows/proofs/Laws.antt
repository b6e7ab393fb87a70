pub mod RowLaws
pub mod LinkLaws
pub mod ChainLaws
pub mod ChainMembers
pub mod Zeros
pub mod MaskLaws
pub mod DefinesLaws
