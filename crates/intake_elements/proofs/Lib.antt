pub mod Keys
pub mod Lacking
pub mod Making
pub mod Targets
pub mod TextLemmas
