pub mod Assisted
pub mod Fitting
pub mod Framing
pub mod Typed
