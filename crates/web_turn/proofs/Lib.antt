pub mod Accepting
pub mod Linking
pub mod Places
pub mod Waking
