pub mod Gone
pub mod Picks
pub mod Scopes
pub mod Grouping
