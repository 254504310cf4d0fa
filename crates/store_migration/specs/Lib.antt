pub mod Moved
pub mod TakenOver
pub mod Checked
pub mod Migrated
