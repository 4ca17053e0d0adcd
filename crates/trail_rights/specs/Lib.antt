pub mod Marks
pub mod Deciding
pub mod Windows
pub mod Settling
pub mod Masking
pub mod Keeping
pub mod Seeing
pub mod Watching
