pub mod Acts
pub mod Done
pub mod Files
pub mod Keeping
pub mod Outcome
pub mod Serving
