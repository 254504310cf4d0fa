pub mod Searching
pub mod Indexing
pub mod Accepting
pub mod Translating
pub mod Certifying
pub mod Collecting
pub mod Stating
