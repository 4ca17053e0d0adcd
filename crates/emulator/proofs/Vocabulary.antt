-- What this crate's proofs take from definitions and from other crates.
pub use Rattle.cells.specs.Page.{IsGridSize, IsPage, line_at}
pub use Rattle.charsets.specs.Text.{IsText, text}
pub use Rattle.charsets.specs.Units.{Decoding, is_character, is_plain, unit_list, units}
pub use Rattle.charsets.specs.declared.decoder.Coding.{Coding}
pub use Rattle.charsets.specs.declared.decoder.Coding.TheVariants.{Ecma35, Utf8}
pub use Rattle.control_parser.proofs.Openings.{functions-go_on, functions-opening}
pub use Rattle.control_parser.proofs.Spelled.{spelled_reads}
pub use Rattle.control_parser.specs.Grammar.{functions, nothing}
pub use Rattle.control_parser.specs.Kept.{kept, opening}
pub use Rattle.control_parser.specs.Spelling.{ReadsAs}
pub use Rattle.control_parser.specs.Steps.{no_text}
pub use Rattle.control_parser.specs.declared.parser.Func.{Func}
pub use Rattle.control_parser.specs.declared.parser.Func.TheVariants.{Control, Csi, Esc, Print}
pub use Rattle.emulator.specs.Standing.{HasRead, IsBetween, Parts, StandsFor, StandsWithin, TakesWhole}
pub use Rattle.std.proofs.Common.{Bor, IfSome, List, None, Option, Some, [], ap, append-nil, append_assoc, arith, drop}
pub use Rattle.std.proofs.Common.{false, get_or, length, length-append, length-take-le, map, refl, reverse, rules, set}
pub use Rattle.std.proofs.Common.{subst, sym, take, true, vec_capacity, vec_len, ℕ, ⊎_elim, ◌*◌, ◌++◌, ◌+◌, ◌-◌, ◌<◌}
pub use Rattle.std.proofs.Common.{◌∙◌, ◌∷◌, ◌≡◌, ◌≤◌}
pub use Rattle.std.proofs.lemmas.Bool.Decides.{nat_tests}
pub use Rattle.std.proofs.lemmas.List.{get_or-take, length-set, length-take, take_all, take_more}
pub use Rattle.terminal_model.proofs.Codings.{effect-coding, escape-coding}
pub use Rattle.terminal_model.proofs.Sound.{IsSound-starting}
pub use Rattle.terminal_model.proofs.Terminals.{IsTerminal-read_byte, IsTerminal-reads, IsTerminal-ready}
pub use Rattle.terminal_model.proofs.Terminals.{IsTerminal-writes}
pub use Rattle.terminal_model.specs.Reading.{IsTerminal, Read, Terminal, in_coding, joined, ready}
unfoldable pub use Rattle.terminal_model.specs.Reading.{read_byte, read_unit, read_units, reads}
pub use Rattle.terminal_model.specs.Screen.{IsSound, Page, Screen, starting}
pub use Rattle.terminal_model.specs.Writing.{Clear, Encoding, Reset, Size, clear_bytes, coding_bytes, reset_bytes}
pub use Rattle.terminal_model.specs.Writing.{writes, writes_all}
