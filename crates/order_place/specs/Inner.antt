pub mod Sound
pub mod State
