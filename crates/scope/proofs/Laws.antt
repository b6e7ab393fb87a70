pub mod Children
pub mod GatherLaws
pub mod Below
pub mod Shadowed
pub mod TreeRows
pub mod StatementRows
pub mod StatementWalks
