pub mod Vocabulary
pub mod Printing
pub mod Reading
pub mod Replied
mod Free
pub mod Told
pub mod Headed
pub mod Unbroken
pub mod Coming
pub mod Halted
pub mod Cut
