pub mod Installs
pub mod Surviving
