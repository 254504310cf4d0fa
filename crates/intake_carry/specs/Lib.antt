pub mod Carried
pub mod Keys
pub mod PassedOn
pub mod Unsure
