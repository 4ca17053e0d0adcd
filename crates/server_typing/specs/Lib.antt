pub mod Sized
pub mod Typed
