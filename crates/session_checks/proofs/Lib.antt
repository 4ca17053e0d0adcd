pub mod Checking
pub mod Listing
pub mod Places
pub mod Standing
