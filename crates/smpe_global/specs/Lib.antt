pub mod Edits
pub mod Items
pub mod Taken
pub mod LastEdits
pub mod Rejections
