pub mod BypassText
pub mod Scopes
pub mod Telling
