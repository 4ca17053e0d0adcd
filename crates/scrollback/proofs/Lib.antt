pub mod Lasts
pub mod Ringing
