-- What this crate's proofs take from definitions and from other crates.
pub use Rattle.emulator.specs.Commanded.{writing_in}
pub use Rattle.std.proofs.Common.{Bool, Err, List, MutBor, None, Ok, Option, Some, [], ap, arith, drop, false, filter}
pub use Rattle.std.proofs.Common.{get_or, inl, inr, length, map, not, refl, subst, suc, sym, take, true, zero, ℕ}
pub use Rattle.std.proofs.Common.{⊎_elim, ◌*◌, ◌++◌, ◌+◌, ◌-◌, ◌<◌, ◌^◌, ◌∙◌, ◌∷◌, ◌≡◌, ◌≢◌, ◌≤◌}
pub use Rattle.std.proofs.lemmas.Bool.Decides.{nat_tests}
pub use Rattle.std.specs.List.{list_all, list_any, range_with_len}
pub use Rattle.std.specs.Option.{option_and_then, option_copied_mut, option_map, option_map_or, option_or}
pub use Rattle.std.specs.Prelude.{AllPairs, IfErr, IfSome, OnErr, OnOk, OnSome, Result, find, if◌then◌else◌, nat_lt}
pub use Rattle.std.specs.Prelude.{option_copied, ◌&&◌, ◌==◌, ◌||◌, ◌⊎◌}
pub use Rattle.terminal_model.specs.Writing.{IsWriting, Output, Size, Writing, writes}
unfoldable pub use Rattle.terminal_model.specs.Writing.{writes_all}
pub use Rattle.windows.specs.Among.{first_free, is_above, is_among, nearest, numbered, taken_by_other}
pub use Rattle.windows.specs.Asking.{AnswersReports, IsFree, number}
pub use Rattle.windows.specs.Rows.{AreRows, ChangesRow}
pub use Rattle.windows.specs.Standing.{StandFor, WindowStands, changed, in_place, in_row, is_taken, new_row, retitled}
pub use Rattle.windows.specs.Standing.{serial, written, written_to}
pub use Rattle.windows.specs.Writing.{Becomes, HasFed}
pub use Rattle.windows.specs.declared.among.Among.TheVariants.{Above, All, Below, Titled}
pub use Rattle.windows.specs.declared.among.End.TheVariants.{Highest, Lowest}
pub use Rattle.windows.specs.declared.window.Window.{Window}
pub use Rattle.windows_model.proofs.Matching.{rows_match}
pub use Rattle.windows_model.proofs.Serials.{if_false, if_true, serial_is, with_back}
pub use Rattle.windows_model.specs.Finding.{row_of, with_row}
pub use Rattle.windows_model.specs.Naming.{is_digit, is_title, number_after}
pub use Rattle.windows_model.specs.Terminals.{terminal_of}
pub use Rattle.windows_model.specs.declared.rows.TheConstants.{WINDOWS}
pub use Rattle.windows_model.specs.declared.rows.WindowsFault.{WindowsFault}
