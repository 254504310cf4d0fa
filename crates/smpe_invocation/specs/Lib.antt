pub mod Answers
pub mod CommandLine
pub mod Dates
pub mod Values
