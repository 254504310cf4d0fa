pub mod Places
pub mod Received
pub mod Restored
pub mod Sessions
pub mod KnownZones
pub mod Uses
pub mod Writing
