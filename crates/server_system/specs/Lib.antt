pub mod Folders
pub mod Locks
pub mod Logging
pub mod Looking
pub mod Paths
pub mod Types
pub mod Waiting
