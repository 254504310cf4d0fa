pub mod AllKept
pub mod ById
pub mod Bypassed
pub mod Deciding
pub mod Decisions
pub mod InstallLines
pub mod RestoredStatuses
pub mod Listed
