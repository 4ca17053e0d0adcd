pub mod SetupReading
