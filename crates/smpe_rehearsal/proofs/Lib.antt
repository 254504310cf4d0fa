mod Copying
mod Greatest
mod Afterwards
mod Received
pub mod OneJob
