pub mod Growing
pub mod Partition
pub mod Superseded
pub mod Untouched
pub mod FirstNeeds
