pub mod Streaming
pub mod Tokens
