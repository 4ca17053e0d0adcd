pub mod Vocabulary
pub mod Known
pub mod Lines
pub mod Paying
pub mod Places
pub mod Rationing
pub mod Seen
pub mod Spelled
