pub mod Growing
pub mod Paired
pub mod Errors
pub mod Stating
pub mod AllNeeds
pub mod Closing
