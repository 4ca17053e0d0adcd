pub mod Vocabulary
pub mod Circles
pub mod ShutOut
mod Texts
