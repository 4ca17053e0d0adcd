-- What this crate's proofs take from definitions and from other crates.
pub use Rattle.acl.specs.Names.{name_of}
pub use Rattle.acl.specs.Same.{same_user}
pub use Rattle.acl.specs.declared.user_id.UserId.{UserId}
pub use Rattle.keys.specs.Kept.{StandsFor}
pub use Rattle.redraw.specs.Shadow.{Knowledge}
pub use Rattle.regions.specs.Layouts.{Arrangement}
pub use Rattle.session_model.specs.Answering.{reading}
pub use Rattle.session_model.specs.Comings.{attached}
pub use Rattle.session_model.specs.Deeds.{hearing, is_of, without_window}
pub use Rattle.session_model.specs.Naming.{with_number}
pub use Rattle.session_model.specs.Sound.{AreFit}
pub use Rattle.session_model.specs.Tables.{Tables, focused, row_of, window_at, with_row}
pub use Rattle.session_model.specs.Texts.{separated, window_item}
pub use Rattle.session_model.specs.declared.event.StatusMessage.{StatusMessage}
pub use Rattle.session_model.specs.declared.event.StatusMessage.TheVariants.{Silence, Text}
pub use Rattle.session_state.specs.Clients.{AreClients, ClientStands, Finds}
pub use Rattle.session_state.specs.Growing.{IsList}
pub use Rattle.session_state.specs.Items.{client_line, separator}
pub use Rattle.session_state.specs.Listing.{client_item}
pub use Rattle.session_state.specs.Moves.{heard, moved_to, said, without}
pub use Rattle.session_state.specs.Orders.{numbered}
pub use Rattle.session_state.specs.Stands.{Stands}
pub use Rattle.session_state.specs.declared.client.Client.{Client}
pub use Rattle.std.proofs.Common.{Bool, List, MutBor, None, Option, Some, [], ap, append-nil, append_assoc, arith, drop}
pub use Rattle.std.proofs.Common.{false, get_or, length, map, not, refl, replicate, rules, subst, suc, sym, take, true}
pub use Rattle.std.proofs.Common.{zero, ℕ, ◌++◌, ◌+◌, ◌-◌, ◌<◌, ◌∙◌, ◌∷◌, ◌≡◌, ◌≤◌}
pub use Rattle.std.proofs.lemmas.Bool.Decides.{nat_tests}
pub use Rattle.std.proofs.lemmas.Fn.{filter_same}
pub use Rattle.std.proofs.lemmas.List.{get_or_default, map_more, take_all}
pub use Rattle.std.proofs.lemmas.List.Edits.{map_over_more}
pub use Rattle.std.specs.Fn.{FnOnceReturnsAtMut}
pub use Rattle.std.specs.List.{flat_map}
pub use Rattle.std.specs.Option.{OnSome, option_copied_mut}
pub use Rattle.std.specs.Prelude.{codes, if◌then◌else◌, nat_lt, option_to_list, ◌==◌}
pub use Rattle.terminal_model.specs.Reading.{Terminal}
pub use Rattle.windows.specs.Standing.{StandFor, WindowStands}
pub use Rattle.windows.specs.declared.window.Window.{Window}
pub use Rattle.windows_model.proofs.Matching.{mapped_match, rows_match}
pub use Rattle.windows_model.proofs.Serials.{on_ok, with_back}
pub use Rattle.windows_model.specs.Matched.{BothOrNone}
