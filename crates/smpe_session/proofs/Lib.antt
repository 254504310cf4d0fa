mod AllZones
mod CarriedOut
pub mod Installed
pub mod Leading
mod Looking
pub mod Places
mod Received
mod Rejected
mod RelatedZone
pub mod Restored
mod Seeking
mod StateZones
pub mod Stepping
pub mod Using
