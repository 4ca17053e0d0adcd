pub mod Listening
pub mod Asking
