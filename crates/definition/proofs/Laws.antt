pub mod RustWay
pub mod OutputOwns
