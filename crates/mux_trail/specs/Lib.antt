pub mod Words
pub mod Asking
pub mod History
pub mod Reading
pub mod Answers
pub mod Diary
pub mod Statuses
