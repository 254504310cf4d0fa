pub mod HeldKeys
pub mod Passing
pub mod UnsureNames
pub mod WithHolds
