pub mod Asking
pub mod Beginning
pub mod Ending
pub mod Leaving
pub mod Lines
pub mod Stands
pub mod Visible
