pub mod Faults
pub mod Held
pub mod Table
pub mod Frames
