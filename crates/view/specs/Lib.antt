pub mod View
pub mod Drawable
pub mod Texts
pub mod Granted
pub mod Rows
pub mod Composing
