pub mod AsciiWords
pub mod Listed
pub mod Read
pub mod Plain
