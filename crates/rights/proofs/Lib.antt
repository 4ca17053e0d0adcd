pub mod Vocabulary
pub mod Rows
pub mod Standing
pub mod Reading
pub mod Redoing
pub mod Unfreed
pub mod Running
