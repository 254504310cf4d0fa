pub mod Breaks
pub mod FirstBreach
pub mod Laws
pub mod Telling
pub mod Verified
