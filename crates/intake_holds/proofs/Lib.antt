pub mod Adding
pub mod Becoming
