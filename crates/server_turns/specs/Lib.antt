pub mod Beginning
pub mod Calls
pub mod Course
pub mod Marks
pub mod Rounds
pub mod Steps
pub mod Turns
pub mod Waits
