pub mod Holding
pub mod LockTable
