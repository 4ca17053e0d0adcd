pub mod Finishing
pub mod Beginning
pub mod Words
pub mod Json
pub mod Showing
pub mod Telling
