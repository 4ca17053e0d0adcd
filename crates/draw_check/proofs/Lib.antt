pub mod Joining
pub mod Reading
pub mod Spelled
