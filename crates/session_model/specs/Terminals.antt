-- The terminals of windows.
pub use Rattle.windows_model.specs.Terminals.{terminal_of}
