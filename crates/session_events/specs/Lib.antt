pub mod Dropping
pub mod Events
pub mod Leaving
