pub mod Actions
pub mod Runs
pub mod Asked
pub mod Mends
pub mod Words
pub mod Growth
pub mod Courses
