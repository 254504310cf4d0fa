pub mod Conditions
pub mod Needed
pub mod Pairs
pub mod Closures
