pub mod Vocabulary
pub mod Folding
pub mod Judged
pub mod Taken
