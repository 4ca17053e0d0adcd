pub mod Alone
pub mod Closing
pub mod Giving
pub mod Keeping
pub mod Lines
pub mod Masks
pub mod Modes
pub mod Setup
