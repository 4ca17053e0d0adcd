pub mod Restored
pub mod Taking
