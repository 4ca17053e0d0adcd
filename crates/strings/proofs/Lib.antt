pub mod Fronts
pub mod Suffixes
pub mod Steps
pub mod Cutting
pub mod Readings
