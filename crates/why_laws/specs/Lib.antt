pub mod Reasons
pub mod Witnesses
