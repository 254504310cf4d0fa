pub mod ElementTexts
pub mod Elements
pub mod StandInNames
