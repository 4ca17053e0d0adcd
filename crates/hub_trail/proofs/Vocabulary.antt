-- What this crate's proofs take from definitions and from other crates.
pub use Rattle.acl.proofs.StandsForLemmas.{same_user-refl}
pub use Rattle.acl.specs.Commands.{add_acts, added, change_acts, change_fault, group_acts, known_acts, known_name_fault}
pub use Rattle.acl.specs.Commands.{mask_acts, mask_fault, name_acts, name_sets, names_sets, names_user, new_acts}
pub use Rattle.acl.specs.Commands.{new_name_fault, scope_acts, sets, sets_on, user_acts, with_name}
pub use Rattle.acl.specs.History.{History, among, followed_by, is_open, there}
pub use Rattle.acl.specs.Names.{named_by}
pub use Rattle.acl.specs.Same.{same_bit, same_user}
pub use Rattle.acl.specs.declared.act.Act.{Act}
pub use Rattle.acl.specs.declared.act.Object.{Object}
pub use Rattle.acl.specs.declared.bits.Bit.{Bit}
pub use Rattle.acl.specs.declared.bits.Bit.TheVariants.{Execute, Read, Write}
pub use Rattle.acl.specs.declared.bits.BitChange.{BitChange}
pub use Rattle.acl.specs.declared.command_name.CommandName.{CommandName}
pub use Rattle.acl.specs.declared.entries.MaskEntry.{MaskEntry}
pub use Rattle.acl.specs.declared.entries.MaskScope.{MaskScope}
pub use Rattle.acl.specs.declared.entries.NewLeader.{NewLeader}
pub use Rattle.acl.specs.declared.leaders.Edition.{Edition}
pub use Rattle.acl.specs.declared.user_id.UserId.{UserId}
pub use Rattle.command_lang.specs.Names.{all_names, command_named, name_of}
pub use Rattle.command_lang.specs.Needs.{needs}
pub use Rattle.command_lang.specs.Relation.{read_line}
pub use Rattle.command_lang.specs.declared.fault.ParseFault.{ParseFault}
pub use Rattle.command_lang.specs.declared.needs.Needs.{Needs}
pub use Rattle.hub_trail.specs.Filing.{ending_of, entries_of, entry_of, filed, kept_of}
pub use Rattle.hub_trail.specs.Fitting.{makes}
pub use Rattle.hub_trail.specs.Judging.{is_on_there}
pub use Rattle.hub_trail.specs.Legal.{AsksFirst, CarriesFailed, IsDenied, IsTrue, acts_after, failed, first_names}
pub use Rattle.hub_trail.specs.Legal.{from_command, is_client_of, is_granted, user_of}
pub use Rattle.hub_trail.specs.Saying.{changes, items_say}
pub use Rattle.hub_trail.specs.Trails.{Entry}
pub use Rattle.hub_trail.specs.declared.kept.Kept.{Kept}
pub use Rattle.keys.specs.Grammar.{Item, bound, line, typed}
pub use Rattle.regions.specs.Layouts.{Arrangement}
pub use Rattle.rights.proofs.Running.{follow_append}
pub use Rattle.rights.specs.Acts.{CanFollow}
pub use Rattle.session.proofs.ActsOfMoves.{has, has_row}
pub use Rattle.session.proofs.Doing.{Either, is_plain}
pub use Rattle.session.proofs.Events.{all_left}
pub use Rattle.session.proofs.FitCommands.{Holds, has_there}
pub use Rattle.session.proofs.Focusing.{IsMine}
pub use Rattle.session.proofs.Gating.{obeys_of}
pub use Rattle.session.proofs.Granting.{told_read}
pub use Rattle.session.proofs.GuestsLeaving.{LeftBy, left_where, parted}
pub use Rattle.session.proofs.Leaving.{none_left}
pub use Rattle.session.proofs.Lists.{all_append, all_map, all_of, all_passed, all_weaken, both_true, equal, itself}
pub use Rattle.session.proofs.Lists.{row_serial}
pub use Rattle.session.proofs.Moving.{serials}
pub use Rattle.session.proofs.Showing.{IsThere, at_there, lowest_there, number_there}
pub use Rattle.session.proofs.Staying.{fresh_fit, run_fit}
pub use Rattle.session.proofs.Steps.{Did, Obeys, with_clients}
pub use Rattle.session.proofs.Unread.{SameClients, nobody_left, typing_clients}
pub use Rattle.session.specs.Answering.{Ordered, answered, by_line, commanded, keyed, keys_outcome, line_ruling}
pub use Rattle.session.specs.Answering.{message_of, ordered, reading, told, types, typing_verdicts, with_listed}
pub use Rattle.session.specs.Checks.{checks, first_fault, passes, typing_checks, verdicts, where_needed, window_checks}
pub use Rattle.session.specs.Comings.{attach_checks, attaches, new_client, new_window, open_checks, opens}
pub use Rattle.session.specs.Commands.{caller_client, does, mask_entries}
pub use Rattle.session.specs.Deeds.{Answer, Deed, acting, changing, closes, entering, enters, is_of, parts, removes}
pub use Rattle.session.specs.Deeds.{without_windows}
pub use Rattle.session.specs.Events.{outcome}
pub use Rattle.session.specs.Given.{Given, commands_of, ok_of, order_in, with_order}
pub use Rattle.session.specs.Keying.{command_item, items_behind, step_items, taken, typed_bytes}
pub use Rattle.session.specs.Lines.{Caller, caller_of, line_caller}
pub use Rattle.session.specs.Naming.{every_command, every_window, is_wide, item_objects, lowest, names_of}
pub use Rattle.session.specs.Naming.{new_leader_of, objects_of, wide_objects, window_named}
pub use Rattle.session.specs.Outcomes.{Outcome, done, finished, left_acts, left_acts_of, refused, reply_of}
pub use Rattle.session.specs.Promises.{OnlyRead, SomeOf}
pub use Rattle.session.specs.Rights.{group_fault_in, holder_in, may_in}
pub use Rattle.session.specs.Run.{IsRun, IsRunFrom, IsStep, drawn, tables_from}
pub use Rattle.session.specs.Sound.{ActsAgree, AreFit, Rises}
pub use Rattle.session.specs.Tables.{Client, Tables, Window, client_at, focused, focused_window, fresh, is_in_focus}
pub use Rattle.session.specs.Tables.{is_known, known_users, row_of, window_at, with_client, with_layout}
pub use Rattle.session.specs.Trace.{Attach, Closed, Command, Detach, Draw, EventValue, Keys, Open, Output, Reply}
pub use Rattle.session.specs.event.Done.{Done}
pub use Rattle.session.specs.event.Effect.{Effect}
pub use Rattle.session.specs.event.Reason.TheVariants.{Quit}
pub use Rattle.session.specs.event.StatusMessage.{StatusMessage}
pub use Rattle.session.specs.refusal.Check.{Check}
pub use Rattle.session.specs.refusal.Refusal.{Refusal}
pub use Rattle.session.specs.refusal.Refusal.TheVariants.{Acl, Line, NoWindow, UnknownUser, Windows}
pub use Rattle.session.specs.refusal.Verdict.{Verdict}
pub use Rattle.session.specs.rows.WindowsFault.TheVariants.{NoSuchWindow}
pub use Rattle.std.proofs.Common.{Bool, Err, List, None, Ok, Option, Result, Some, [], ap, false, filter, inl, inr, map}
pub use Rattle.std.proofs.Common.{not, refl, reverse, subst, sym, take, true, ℕ, ⊎_elim, ◌++◌, ◌<◌, ◌||◌, ◌∙◌, ◌∷◌, ◌≡◌}
pub use Rattle.std.proofs.lemmas.Bool.{and_from, both_ways, eq-eqb, or_left, or_right}
pub use Rattle.std.proofs.lemmas.List.{reverse-append}
pub use Rattle.std.specs.List.{AllByRecursion, list_all, list_any}
pub use Rattle.std.specs.Option.{option_and_then, option_map, option_map_or, option_or}
pub use Rattle.std.specs.Prelude.{MatchOption, if◌then◌else◌, is_ok, is_some, length, nat_eq, nat_lt, ◌&&◌, ◌==◌}
pub use Rattle.writelock.specs.LockTable.{stops_nobody_but}
