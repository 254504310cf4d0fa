pub mod Adding
pub mod WrittenLists
pub mod Making
pub mod Meta
pub mod Number
pub mod Numbered
pub mod OneState
pub mod Plain
pub mod Singles
pub mod Spelled
pub mod CreateTexts
pub mod PartLemmas
pub mod UnderEach
pub mod Asks
pub mod TextForms
mod Found
