pub mod Equal
pub mod Same
