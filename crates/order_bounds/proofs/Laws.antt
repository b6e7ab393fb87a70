pub mod RowTests
pub mod Answers
