pub mod Told
pub mod Opened
pub mod ServiceSet
pub mod Copied
pub mod Prepared
pub mod Asking
pub mod Rehearsed
pub mod Laws
