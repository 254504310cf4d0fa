pub mod Held
pub mod Stated
