pub mod Lines
pub mod Pushes
pub mod Readings
pub mod Digits
