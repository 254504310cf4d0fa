pub mod Gaining
pub mod Breaches
pub mod Lost
pub mod Kept
pub mod Ordering
pub mod Comparing
pub mod Lints
