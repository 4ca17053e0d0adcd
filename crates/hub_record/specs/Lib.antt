pub mod Stored
pub mod EntryLists
pub mod Growing
pub mod Receipts
