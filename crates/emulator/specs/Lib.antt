pub mod Standing
pub mod Pages
pub mod Commanded
