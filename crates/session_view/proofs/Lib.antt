pub mod Vocabulary
pub mod Lines
pub mod Panes
pub mod Granting
pub mod Delivering
pub mod Alike
pub mod Led
