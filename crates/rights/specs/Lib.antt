pub mod Acts
pub mod Clients
pub mod Runs
pub mod Following
