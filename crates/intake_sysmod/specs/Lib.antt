pub mod Changed
pub mod NoLooser
pub mod Users
