pub mod Scopes
pub mod Growing
pub mod Reasons
