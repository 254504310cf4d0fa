pub mod Rows
pub mod Entries
pub mod Zones
pub mod Says
pub mod Cut
pub mod Typed
pub mod Lists
pub mod Unread
