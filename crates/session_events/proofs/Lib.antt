pub mod Vocabulary
pub mod Passing
pub mod Finding
pub mod NewClients
pub mod NewWindows
pub mod Feeding
pub mod Parts
pub mod Left
