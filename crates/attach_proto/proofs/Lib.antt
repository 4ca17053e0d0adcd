pub mod TextLaws
pub mod FieldLaws
pub mod Payloads
pub mod Frames
pub mod Rests
pub mod Joining
pub mod Differences
