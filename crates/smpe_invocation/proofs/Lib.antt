pub mod Days
pub mod Excluding
pub mod Ids
pub mod Meeting
pub mod Shapes
mod ParsedDates
