pub mod Known
pub mod Tests
pub mod Firsts
