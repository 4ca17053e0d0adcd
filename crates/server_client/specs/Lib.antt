pub mod Asking
pub mod Comebacks
pub mod Handing
pub mod Lines
pub mod Marks
pub mod Opening
pub mod Telling
