pub mod Changed
pub mod Quantified
pub mod SameIds
pub mod Using
pub mod VersMore
pub mod Whole
