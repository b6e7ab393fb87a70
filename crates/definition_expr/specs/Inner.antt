pub mod Gathers
pub mod ComprRows
pub mod Defined
pub mod UsesVars
pub mod UsesMods
pub mod Asks
