pub mod FactText
pub mod Asking
pub mod Numbered
pub mod Makers
pub mod Needed
