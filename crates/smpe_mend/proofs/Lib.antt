pub mod TakenBack
pub mod Leaving
pub mod SameMembers
pub mod Gaining
pub mod WithOrders
pub mod Faults
pub mod Answering
pub mod Namers
