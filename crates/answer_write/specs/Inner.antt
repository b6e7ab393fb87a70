pub mod Writes
pub mod Texts
pub mod Decimal
