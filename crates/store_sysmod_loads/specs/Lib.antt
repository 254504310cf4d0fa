pub mod Runs
pub mod Joined
pub mod Both
pub mod Built
pub mod Flats
pub mod Gathered
pub mod Parts
