pub mod Counting
pub mod Gauging
pub mod Loading
pub mod Outcomes
pub mod Seating
pub mod SettingUp
