pub mod Naming
pub mod KeyOrders
pub mod Places
mod Words
