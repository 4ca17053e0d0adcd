pub mod Stored
pub mod Turning
pub mod Sizes
