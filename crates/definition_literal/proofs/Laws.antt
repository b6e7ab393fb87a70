pub mod Choices
pub mod Pairs
pub mod SomeIn
pub mod ExtraArgs
pub mod ExtraNames
pub mod Binding
pub mod Used
