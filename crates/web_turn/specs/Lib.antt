pub mod Accepting
pub mod Links
pub mod Turning
pub mod Waking
