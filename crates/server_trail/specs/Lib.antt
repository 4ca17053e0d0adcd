pub mod Merging
pub mod Files
pub mod Faults
pub mod Stopping
pub mod Journals
pub mod Waiting
pub mod Runs
