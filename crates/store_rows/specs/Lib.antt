pub mod Numbered
pub mod Reads
pub mod Rows
pub mod Selects
pub mod Inside
pub mod Texts
pub mod Told
pub mod Calls
