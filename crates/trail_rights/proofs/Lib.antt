pub mod Vocabulary
pub mod Decided
pub mod Opened
pub mod Seen
pub mod Stepping
pub mod Settled
pub mod Kept
