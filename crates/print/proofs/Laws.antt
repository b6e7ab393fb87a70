pub mod NoZeros
pub mod Printed
