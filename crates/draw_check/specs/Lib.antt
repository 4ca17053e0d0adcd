pub mod Functions
pub mod Places
pub mod Used
