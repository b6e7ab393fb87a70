pub mod OnceWay
pub mod Own
pub mod Steps
pub mod ExprSteps
pub mod StatementSteps
pub mod Schedules
pub mod OwnNames
pub mod Named
