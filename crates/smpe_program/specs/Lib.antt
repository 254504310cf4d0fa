pub mod Wary
