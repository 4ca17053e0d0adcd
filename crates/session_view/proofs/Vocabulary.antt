-- What this crate's proofs take from definitions and from other crates.
pub use Rattle.acl.specs.declared.bits.Bit.TheVariants.{Read}
pub use Rattle.acl.specs.declared.user_id.UserId.{UserId}
pub use Rattle.cells.specs.Page.{IsGridSize, line_at}
pub use Rattle.redraw.specs.Frames.{Made}
pub use Rattle.redraw.specs.Shadow.{Knowledge, knowledge_of}
pub use Rattle.regions.specs.Pages.{IsRects, box_of, status_of}
pub use Rattle.regions.specs.declared.layout.Shown.{Shown}
pub use Rattle.session_model.specs.Granted.{granted_view, layout_of, message_text, part_of_window, part_shown}
pub use Rattle.session_model.specs.Granted.{status_text, window_read}
pub use Rattle.session_model.specs.Rights.{may_in}
pub use Rattle.session_model.specs.Sound.{AreFit}
pub use Rattle.session_model.specs.Tables.{Tables, client_at, row_of, window_at, with_row}
pub use Rattle.session_model.specs.declared.event.Effect.TheVariants.{Deliver}
pub use Rattle.session_state.proofs.Changing.{serials}
pub use Rattle.session_state.specs.Clients.{ClientStands}
pub use Rattle.session_state.specs.Draws.{FitsIn, LeadsFrom}
pub use Rattle.session_state.specs.Stands.{Stands}
pub use Rattle.session_state.specs.declared.client.Client.{Client}
pub use Rattle.session_state.specs.declared.state.State.{State}
pub use Rattle.session_view.specs.Drawn.{HasDrawnSo, IsSomething, LeadsOn}
pub use Rattle.session_view.specs.Parts.{ShowsPart}
pub use Rattle.session_view.specs.Sameness.{AreKnownAlike, SeesAlso, ShowBoth}
pub use Rattle.session_view.specs.Status.{SaysStatus}
pub use Rattle.session_view.specs.Viewed.{IsGranted, IsViewFor, ViewOf}
pub use Rattle.session_view.specs.declared.following.Lead.{Lead}
pub use Rattle.session_view.specs.declared.parts.Part.{Part}
pub use Rattle.std.proofs.Common.{List, None, Some, [], ap, length, map, refl, subst, sym, take, ℕ, ◌+◌, ◌∙◌, ◌∷◌, ◌≡◌}
pub use Rattle.std.proofs.lemmas.List.{get_or-reverse, length-map, length-reverse, length_push, map-append, take_all}
pub use Rattle.std.proofs.lemmas.List.{take_more}
pub use Rattle.std.proofs.lemmas.Option.{MatchOption-at_none, MatchOption-at_some}
pub use Rattle.std.specs.Prelude.{is_ok, nat_le, ◌&&◌, ◌==◌}
pub use Rattle.terminal_model.specs.Screen.{Screen}
pub use Rattle.terminal_model.specs.Scrollback.{moved_back}
pub use Rattle.terminal_model.specs.Shows.{NeedsNoDraw, View}
pub use Rattle.view.specs.Granted.{part_of}
pub use Rattle.view.specs.View.{HasSize}
pub use Rattle.windows.specs.Standing.{WindowStands}
pub use Rattle.windows_model.proofs.Matching.{both_back, row_there}
pub use Rattle.windows_model.proofs.Serials.{if_true, serial_is}
pub use Rattle.windows_model.specs.Matched.{BothOrNone, Matched}
