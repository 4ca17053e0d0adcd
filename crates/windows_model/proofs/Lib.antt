pub mod Lending
pub mod Matching
pub mod Serials
