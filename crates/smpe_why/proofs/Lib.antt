mod Alone
mod Cards
pub mod Parts
pub mod Related
