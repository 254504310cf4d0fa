pub mod Become
pub mod Holds
pub mod Outside
