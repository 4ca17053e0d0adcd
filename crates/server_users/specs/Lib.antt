pub mod Accounts
pub mod Allowances
pub mod Entries
pub mod Rationed
pub mod Stands
pub mod Trust
