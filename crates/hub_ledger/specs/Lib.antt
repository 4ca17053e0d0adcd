pub mod States
pub mod Editions
pub mod Faults
pub mod Seats
pub mod Closing
pub mod Laws
pub mod Routing
pub mod Rising
