pub mod Among
pub mod Asking
pub mod Rows
pub mod Showing
pub mod Standing
pub mod Writing
