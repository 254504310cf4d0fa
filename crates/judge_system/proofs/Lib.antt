pub mod Alike
pub mod CandidateIds
pub mod NumberedNeeds
pub mod Numbering
pub mod EachKind
pub mod Failing
pub mod Judging
pub mod Opened
pub mod OwnPlaces
pub mod Passing
pub mod Standing
pub mod NumberedCauses
pub mod SystemOfIds
mod Finding
pub mod TestSets
