mod Committing
mod DeltaLemmas
mod EditCalls
mod EditLoop
mod GlobalLemmas
pub mod Going
pub mod GoingCalls
pub mod Keeping
mod Loading
mod NewLast
mod News
pub mod NoState
mod Parts
pub mod Reopening
mod Standing
pub mod Successive
pub mod ViewLemmas
mod Waiting
