pub mod Views
pub mod SysmodView
pub mod Edited
