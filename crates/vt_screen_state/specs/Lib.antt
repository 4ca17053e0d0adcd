pub mod Fitted
pub mod Meanings
pub mod Counted
pub mod Silent
pub mod Stops
