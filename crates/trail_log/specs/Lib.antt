pub mod Naming
pub mod Causes
pub mod Checks
pub mod Lines
pub mod Choosing
pub mod Joining
pub mod Logging
