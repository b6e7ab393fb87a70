pub mod Writes
pub mod Decimal
pub mod Texts
