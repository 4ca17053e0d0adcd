pub mod SetupLines
