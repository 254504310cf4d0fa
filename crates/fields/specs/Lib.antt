pub mod Padded
pub mod Choices
pub mod ShortNumbers
