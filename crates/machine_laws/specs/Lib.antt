pub mod Storable
pub mod Choices
pub mod Singles
pub mod Answers
pub mod Causers
pub mod Greatest
pub mod Clear
pub mod AnyDate
