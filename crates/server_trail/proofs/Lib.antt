pub mod Merging
pub mod Files
pub mod Runs
