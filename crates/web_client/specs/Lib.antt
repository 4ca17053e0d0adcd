pub mod Asking
pub mod Judging
pub mod Frames
pub mod Rows
