pub mod Table
pub mod Naming
pub mod Terminals
pub mod Faults
pub mod Finding
pub mod Lending
pub mod Matched
