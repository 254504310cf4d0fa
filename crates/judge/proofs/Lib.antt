pub mod Chosen
pub mod Needed
pub mod SaidOf
pub mod Survivors
pub mod Together
