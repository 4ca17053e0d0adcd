pub mod Writing
pub mod Laying
pub mod Looking
pub mod Updating
pub mod Harmless
pub mod Blank
pub mod Hearing
