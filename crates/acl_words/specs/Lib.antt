pub mod BitSets
pub mod Faults
pub mod Leaders
pub mod Names
pub mod Same
pub mod Slots
