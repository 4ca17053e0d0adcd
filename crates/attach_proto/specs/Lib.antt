pub mod Texts
pub mod Fields
pub mod Table
pub mod Spelling
pub mod Reading
pub mod Streams
pub mod Faults
