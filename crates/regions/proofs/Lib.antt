pub mod Room
pub mod Counting
pub mod Tiling
pub mod Undone
pub mod Halving
pub mod Keeping
pub mod Crossing
