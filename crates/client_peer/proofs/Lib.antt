pub mod Assisting
pub mod Closing
pub mod Ending
pub mod Framing
pub mod Hearing
pub mod Passing
pub mod Sending
pub mod Waiting
