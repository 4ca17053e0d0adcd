pub mod Parts
pub mod Status
pub mod Viewed
pub mod Drawn
pub mod Sameness
pub mod Following
