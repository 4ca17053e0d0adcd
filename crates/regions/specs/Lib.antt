pub mod Shapes
pub mod Codes
pub mod Pages
pub mod Layouts
pub mod Faults
