pub mod Demand1
pub mod Demand2
pub mod Demand3
pub mod Levels
pub mod Scheduler
pub mod Inner
