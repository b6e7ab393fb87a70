pub mod OnceWay
pub mod Own
pub mod Schedules
pub mod OwnNames
pub mod Named
