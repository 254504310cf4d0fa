pub mod Changed
pub mod Delta
pub mod Differing
