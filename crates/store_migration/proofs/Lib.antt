pub mod Checking
pub mod Committed
pub mod Emptied
pub mod Moving
pub mod Standing
pub mod Taken
pub mod Texts
mod Formed
mod Migrating
mod Parents
mod Parted
mod Schemas
mod Ending
mod Zones
