pub mod Confining
pub mod Reasons
pub mod Telling
pub mod Standing
