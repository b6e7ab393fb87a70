pub mod Closure
pub mod Gathered
pub mod Fewer
pub mod Growing
pub mod Passing
pub mod Trying
