pub mod Laws
pub mod Listing
pub mod Bits
pub mod Lowest
pub mod Words
pub mod Search
pub mod Examples
