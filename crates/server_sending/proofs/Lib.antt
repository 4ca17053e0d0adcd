pub mod Drawing
pub mod Following
pub mod Framing
pub mod Typing
pub mod Writing
