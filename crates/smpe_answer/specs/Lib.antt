pub mod Asked
pub mod Answered
pub mod Documented
pub mod Mended
