pub mod Edits
pub mod ElementKeys
pub mod MultiMap
pub mod Turned
