pub mod RowLaws
pub mod Puts
pub mod Question
