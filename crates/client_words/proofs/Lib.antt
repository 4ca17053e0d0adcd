pub mod Numbers
pub mod Pairs
pub mod Parts
pub mod Shown
pub mod Sizes
pub mod Standing
