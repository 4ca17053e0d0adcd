pub mod Renaming
pub mod Histories
pub mod Alike
pub mod Steps
