pub mod StateLaws
pub mod Trying
pub mod Turning
pub mod Rounding
pub mod Placing
