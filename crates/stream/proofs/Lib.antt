pub mod Gaining
pub mod FirstVers
pub mod Placing
pub mod Comparing
pub mod Lost
pub mod Clean
pub mod Kept
