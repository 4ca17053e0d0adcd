-- What this crate's proofs take from definitions and from other crates.
pub use Rattle.acl.proofs.AsideLemmas.{StandsFor-all_aside}
pub use Rattle.acl.proofs.FollowingLemmas.{followed_by-append}
pub use Rattle.acl.specs.Commands.{IsAside, change_fault, known_name_fault}
pub use Rattle.acl.specs.History.{History, followed_by, is_open, there}
pub use Rattle.acl.specs.Names.{named_by}
pub use Rattle.acl.specs.Same.{same_user}
pub use Rattle.acl.specs.Table.{StandsFor, Table, users_in}
pub use Rattle.acl.specs.declared.act.Act.{Act}
pub use Rattle.acl.specs.declared.act.Act.TheVariants.{Closed, Parted}
pub use Rattle.acl.specs.declared.act.Object.{Object}
pub use Rattle.acl.specs.declared.entries.AclFault.{AclFault}
pub use Rattle.acl.specs.declared.leaders.Edition.{Edition}
pub use Rattle.acl.specs.declared.user_id.UserId.{UserId}
pub use Rattle.command_lang.specs.Needs.{needs}
pub use Rattle.command_lang.specs.declared.command.Command.{Command}
pub use Rattle.regions.specs.Layouts.{Arrangement, remove_focused, split_fault, split_focused}
pub use Rattle.regions.specs.Pages.{has_room}
pub use Rattle.regions.specs.declared.layout.Shown.{Shown}
pub use Rattle.regions.specs.declared.node.Way.{Way}
pub use Rattle.rights.specs.Clients.{ClientsStandFor}
pub use Rattle.session_commands.specs.Asked.{wide, window_object}
pub use Rattle.session_commands.specs.Closing.{closed_acts, closing, gone_row}
pub use Rattle.session_commands.specs.Entering.{IsOpenThere}
pub use Rattle.session_commands.specs.Going.{TellsLocks, attached_now, goes, goes_now, gone_now, parted_now}
pub use Rattle.session_commands.specs.Settling.{detaching}
pub use Rattle.session_commands.specs.Written.{writing_of}
pub use Rattle.session_commands.specs.declared.going.Going.TheVariants.{All, Of}
pub use Rattle.session_model.specs.Checks.{checks, first_fault}
pub use Rattle.session_model.specs.Commands.{caller_client, does, mask_entries, on_client, on_window}
pub use Rattle.session_model.specs.Deeds.{Answer, Deed, acting, arranges, changes, changing, closes, enters, is_of}
pub use Rattle.session_model.specs.Deeds.{parts, removes, showing, unless}
pub use Rattle.session_model.specs.Faults.{refusal_of}
pub use Rattle.session_model.specs.Naming.{every_command, every_window, is_wide, item_objects, lower, lowest, names_of}
pub use Rattle.session_model.specs.Naming.{objects_of, window_after, window_before, window_named, with_number}
pub use Rattle.session_model.specs.Sound.{AreFit, Rises}
pub use Rattle.session_model.specs.Tables.{Tables, Window, client_at, focused, known_users, row_of, window_at}
pub use Rattle.session_model.specs.Tables.{with_layout, with_row}
pub use Rattle.session_model.specs.declared.event.Effect.TheVariants.{Gone, Size}
pub use Rattle.session_model.specs.declared.event.Reason.{Reason}
pub use Rattle.session_model.specs.declared.refusal.Refusal.{Refusal}
pub use Rattle.session_model.specs.declared.refusal.Refusal.TheVariants.{Acl, NoMemory, NoWindow, Regions, Windows}
pub use Rattle.session_model.specs.rows.WindowsFault.{WindowsFault}
pub use Rattle.session_model.specs.rows.WindowsFault.TheVariants.{NoSuchWindow}
pub use Rattle.session_state.proofs.Changing.{serial_of}
pub use Rattle.session_state.specs.Clients.{AreClients, Changes, ClientStands, Keeps}
pub use Rattle.session_state.specs.Doing.{Answers, HasDone, caller_in}
pub use Rattle.session_state.specs.Stands.{Stands}
pub use Rattle.session_state.specs.declared.client.Client.{Client}
pub use Rattle.session_state.specs.declared.state.Caller.{Caller}
pub use Rattle.session_state.specs.declared.state.State.{State}
pub use Rattle.session_state.specs.declared.state.StepOutput.{StepOutput}
pub use Rattle.std.proofs.Common.{Bool, Err, List, None, Ok, Option, Some, [], ap, append-nil, append_assoc, arith}
pub use Rattle.std.proofs.Common.{drop, false, filter, get_or, inl, inr, is_some, length, map, not, refl, reverse}
pub use Rattle.std.proofs.Common.{rules, subst, suc, sym, take, true, zero, ℕ, ◌++◌, ◌+◌, ◌-◌, ◌<◌, ◌∙◌, ◌∷◌, ◌≡◌, ◌≤◌}
pub use Rattle.std.proofs.Common.{◌⊎◌}
pub use Rattle.std.proofs.lemmas.Bool.Decides.{nat_tests}
pub use Rattle.std.proofs.lemmas.List.{map-append, take_all}
pub use Rattle.std.proofs.lemmas.Result.{err_from_is_err_and}
pub use Rattle.std.specs.List.{AllByRecursion, list_any}
pub use Rattle.std.specs.Option.{option_and_then, option_map, option_or}
pub use Rattle.std.specs.Prelude.{IfSome, Result, find, if◌then◌else◌, nat_eq, nat_lt, option_copied, slice_get}
pub use Rattle.std.specs.Prelude.{vec_capacity, vec_len, ◌==◌}
pub use Rattle.terminal_model.specs.Writing.{Writing}
pub use Rattle.windows.proofs.Callers.{row_done, row_refused_as}
pub use Rattle.windows.specs.Standing.{Answered, StandFor, WindowStands, retitled, serial, with_new_number, written}
pub use Rattle.windows.specs.Standing.{written_to}
pub use Rattle.windows_model.proofs.Matching.{both_back, mapped_match, none_back}
pub use Rattle.windows_model.proofs.Serials.{if_false, if_true, on_ok, same_number, serial_is}
pub use Rattle.windows_model.specs.Matched.{BothOrNone}
pub use Rattle.writelock.specs.Holding.{clients_of}
pub use Rattle.writelock.specs.LockTable.{LocksStandFor}
pub use Rattle.writelock.specs.declared.locks.Locks.{Locks}
