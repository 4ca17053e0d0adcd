pub mod Causes
pub mod Frames
pub mod Typists
pub mod Written
