pub mod Words
pub mod Digits
pub mod Spelled
pub mod ReadBack
pub mod Rows
pub mod Again
pub mod EventParts
pub mod Joined
