pub mod Crossing
mod Refusing
mod SettingUp
