pub mod Grammar
pub mod Kept
