pub mod Events
pub mod Starting
