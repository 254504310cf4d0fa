pub mod PaddedTexts
pub mod ShortOrder
