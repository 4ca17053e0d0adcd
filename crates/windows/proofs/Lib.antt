pub mod Vocabulary
pub mod Answering
pub mod Callers
mod Digits
pub mod Nearest
pub mod Rows
pub mod Writings
