pub mod Commands
pub mod Going
