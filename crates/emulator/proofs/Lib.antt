pub mod Vocabulary
pub mod Feeding
pub mod Writings
pub mod Backs
pub mod Sequences
pub mod Wholes
