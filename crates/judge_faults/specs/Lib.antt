pub mod Failed
pub mod Own
pub mod Claims
pub mod Sharing
pub mod Rows
pub mod Forbidders
pub mod Deletes
pub mod Forbidding
