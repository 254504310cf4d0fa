pub mod Alike
pub mod InOrder
mod Listed
pub mod Passing
