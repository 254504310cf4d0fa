pub mod Decided
pub mod Statuses
pub mod Lines
pub mod Solved
pub mod RestoreDecided
