pub mod Walking
pub mod Halls
pub mod Places
pub mod Relaying
pub mod Seeing
