pub mod Inner
pub mod SameParents
