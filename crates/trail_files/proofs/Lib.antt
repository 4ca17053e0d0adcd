pub mod Coming
pub mod Counted
pub mod Behind
pub mod Wording
pub mod Shown
pub mod Telling
