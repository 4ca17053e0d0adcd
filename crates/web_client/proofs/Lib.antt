pub mod Tokens
pub mod Adding
pub mod Login
pub mod Judging
pub mod Frames
pub mod Rows
pub mod Answering
pub mod Ending
