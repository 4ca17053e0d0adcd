pub mod Faults
pub mod Parts
pub mod Laws
pub mod Judges
