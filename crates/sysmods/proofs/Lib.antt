pub mod Growth
pub mod Going
pub mod Internal
pub mod HoldMaps
pub mod Listed
pub mod Undoing
pub mod KeyedMaps
pub mod Entries
pub mod Holding
pub mod Indexed
pub mod Joined
pub mod Named
pub mod Namers
pub mod NamersFor
pub mod Turned
pub mod Chains
pub mod Empty
pub mod First
pub mod Fronts
pub mod Kept
pub mod OneVer
pub mod Receiving
pub mod Taken
mod KnownPairs
mod Descents
mod OverGraphs
pub mod NoneMet
