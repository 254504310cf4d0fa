pub mod Views
pub mod Faults
pub mod Singles
pub mod Walks
