pub mod Assisting
pub mod Fitting
pub mod Following
pub mod Framing
pub mod Own
