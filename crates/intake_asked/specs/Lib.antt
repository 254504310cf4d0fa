pub mod Known
pub mod KnownWords
pub mod Said
pub mod Words
