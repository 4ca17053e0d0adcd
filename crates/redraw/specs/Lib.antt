pub mod Shadow
pub mod Renditions
pub mod Commands
pub mod Drawing
pub mod Steps
pub mod Frames
