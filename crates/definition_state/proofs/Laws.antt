pub mod Held
pub mod HeldExact
pub mod Frames
pub mod Steps
pub mod Lent
pub mod Tails
pub mod Narrow
