pub mod Vocabulary
mod Begun
mod Counting
mod Drawn
mod Dropping
mod Keys
mod Passing
mod Stepping
mod Telling
