pub mod Editing
pub mod ElementKeys
pub mod Gaining
pub mod InTurn
pub mod Listing
mod Moving
pub mod Turning
