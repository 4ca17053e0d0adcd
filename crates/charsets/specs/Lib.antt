pub mod Utf8
pub mod Partial
pub mod Units
pub mod Sets
pub mod Shifts
pub mod Entries
pub mod Text
