mod FileNames
mod Looked
mod OneJob
mod ReadingOn
mod Texts
pub mod SetZones
