pub mod Valued
pub mod Formed
pub mod Worded
pub mod Exact
pub mod Bypassing
pub mod Walking
