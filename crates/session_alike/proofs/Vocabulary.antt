-- What this crate's proofs take from other crates, and the facts of lists.
pub use Rattle.acl.specs.Commands.{add_acts, added, change_acts, change_fault, group_acts, known_acts, leader_fault}
pub use Rattle.acl.specs.Commands.{mask_acts, mask_fault, name_acts, name_sets, names_sets, new_acts, scope_acts, sets}
pub use Rattle.acl.specs.Commands.{sets_on, user_acts, with_name}
pub use Rattle.acl.specs.History.{History, among, decided, decides_known, decides_mask, decides_open, decides_preset}
pub use Rattle.acl.specs.History.{decision, followed_by, greeting, has, latest, leaders_after, leaders_of, leaders_with}
pub use Rattle.acl.specs.History.{mask, may, opening, users_after, users_of}
pub use Rattle.acl.specs.Names.{name_of, named_by}
pub use Rattle.acl.specs.Same.{same_bit, same_object, same_user}
pub use Rattle.acl.specs.declared.act.Act.{Act}
pub use Rattle.acl.specs.declared.act.Object.{Object}
pub use Rattle.acl.specs.declared.bits.Bit.{Bit}
pub use Rattle.acl.specs.declared.bits.Bit.TheVariants.{Execute, Read, Write}
pub use Rattle.acl.specs.declared.bits.BitChange.{BitChange}
pub use Rattle.acl.specs.declared.leaders.Edition.{Edition}
pub use Rattle.acl.specs.declared.entries.MaskEntry.{MaskEntry}
pub use Rattle.acl.specs.declared.entries.MaskScope.{MaskScope}
pub use Rattle.acl.specs.declared.entries.NewLeader.{NewLeader}
pub use Rattle.acl.specs.declared.user_id.UserId.{UserId}
pub use Rattle.command_lang.specs.declared.command.Command.{Command as Order}
pub use Rattle.command_lang.specs.declared.fault.ParseFault.{ParseFault}
pub use Rattle.keys.specs.Grammar.{Item, Rest, bound, items, line, nothing, rest_step, with_front}
unfoldable pub use Rattle.keys.specs.Grammar.{items_from}
pub use Rattle.regions.specs.Layouts.{Arrangement, emptied, empty, kept_alone, next_focus, one_region, remove_focused}
pub use Rattle.regions.specs.Layouts.{split_fault, split_focused}
pub use Rattle.regions.specs.declared.layout.Shown.{Shown}
pub use Rattle.regions.specs.declared.node.Way.{Way}
pub use Rattle.session_alike.proofs.Matching.{any_both, cases_as, cases_both, find_same, if_as, made_both, map_append}
pub use Rattle.session_alike.proofs.Matching.{map_both, or_both, pick, put_both, read_one, read_or, row_both, then_both}
pub use Rattle.session_alike.specs.Alike.{ClientsAlike, ListsAlike, TablesAlike, TerminalsAlike, TextsAlike}
pub use Rattle.session_alike.specs.Alike.{WindowsAlike, item_as, line_of, listed}
pub use Rattle.session_alike.specs.Histories.{HistoriesAlike, client_as}
pub use Rattle.session_alike.specs.Renaming.{Renaming, act_as, denied_as, effect_as, event_as, layout_as, object_as}
pub use Rattle.session_alike.specs.Renaming.{refusal_as, shown_as, verdict_as}
pub use Rattle.session_alike.specs.Steps.{AllEffectsAlike, AllHaveSerials, AllStepsAlike, DrawsAlike, EffectsAlike}
pub use Rattle.session_alike.specs.Steps.{HasSerials, IsSameEvent, RepliesAlike, StepsAlike, made_as}
pub use Rattle.session_model.specs.Answering.{Ordered, answered, by_line, by_ruling, commanded, input_in, keyed}
pub use Rattle.session_model.specs.Answering.{keys_outcome, line_ruling, message_of, ordered, reading, says, says_same}
pub use Rattle.session_model.specs.Answering.{says_why, told, types, typing_verdicts, unsaid, with_listed}
pub use Rattle.session_model.specs.Checks.{checks, checks_by, first_fault, passes, refusal_of, typing_checks, verdict}
pub use Rattle.session_model.specs.Checks.{verdicts, where_needed, window_checks}
pub use Rattle.session_model.specs.Commands.{Ruling, caller_client, changing_bits, coding_of, does, focus_of, is_taken}
pub use Rattle.session_model.specs.Commands.{known_fault, leaders_named, mask_entries, on_client, on_window, ruling}
pub use Rattle.session_model.specs.Commands.{way_of}
pub use Rattle.session_model.specs.Deeds.{Answer, Deed, acting, arranges, both, changes, changing, closes, entering}
pub use Rattle.session_model.specs.Deeds.{enters, fits, focused_box, former_of, hearing, input_of, is_of, listing}
pub use Rattle.session_model.specs.Deeds.{parts, removes, selects, showing, shown_in_focus, tells, without_window}
pub use Rattle.session_model.specs.Deeds.{without_windows, writes}
unfoldable pub use Rattle.session_model.specs.Deeds.{given, refused_if, unless}
pub use Rattle.session_model.specs.Denials.{denied_on, lock_denial, number_of}
pub use Rattle.session_model.specs.Events.{outcome, with_client_of, with_window_of}
pub use Rattle.session_model.specs.Granted.{granted_view, layout_of, message_text, part_of_window, part_shown}
pub use Rattle.session_model.specs.Granted.{status_text}
pub use Rattle.session_model.specs.Keying.{command_item, completes, is_command, items_behind, taken, typed_bytes}
pub use Rattle.session_model.specs.Lines.{Caller, caller_of, line_caller, read_line}
pub use Rattle.session_model.specs.Naming.{entries_of, every_command, every_window, free_number, has_number, higher}
pub use Rattle.session_model.specs.Naming.{highest, is_wide, item_objects, lower, lowest, names_of, new_leader_of}
pub use Rattle.session_model.specs.Naming.{objects_of, scopes_of, spelled, wide_objects, window_after, window_before}
pub use Rattle.session_model.specs.Naming.{window_named, with_number}
pub use Rattle.session_model.specs.Outcomes.{Outcome, done as said_done, finished, left_acts, left_acts_of, refused}
pub use Rattle.session_model.specs.Outcomes.{reply_of, where_passed}
pub use Rattle.session_model.specs.Rights.{add_acts_in, group_fault_in, holder_in, leaders_in, may_in}
pub use Rattle.session_model.specs.Tables.{Client, Tables, Window, client_at, focused, focused_window, former_after}
pub use Rattle.session_model.specs.Tables.{fresh, is_in_focus, is_known, is_window, known_users, last_after, others}
pub use Rattle.session_model.specs.Tables.{shows, window_at, with_client, with_layout, with_window}
pub use Rattle.session_model.specs.Terminals.{terminal_of}
pub use Rattle.session_model.specs.Texts.{behind, by_number, client_item, clients_text, denied_text, focus_text}
pub use Rattle.session_model.specs.Texts.{group_text, in_order, letter, missing_text, separated, text_of, window_item}
pub use Rattle.session_model.specs.Texts.{windows_text}
pub use Rattle.session_model.specs.Trace.{Attach, Closed, Command, Detach, Draw, Entry, EventValue, Keys, Open, Output}
pub use Rattle.session_model.specs.Trace.{Reply, Resize}
pub use Rattle.session_model.specs.declared.refusal.Check.{Check}
pub use Rattle.session_model.specs.declared.refusal.Check.TheVariants.{Must as must, Right as right, Unlocked as unlocked}
pub use Rattle.session_model.specs.declared.event.Effect.{Effect}
pub use Rattle.session_model.specs.declared.event.Effect.TheVariants.{Gone, Input, Say, Size}
pub use Rattle.session_model.specs.declared.event.StatusMessage.{StatusMessage}
pub use Rattle.session_model.specs.declared.refusal.Refusal.{Refusal}
pub use Rattle.session_model.specs.declared.refusal.Refusal.TheVariants.{Acl, BadSize, Line, LockDenied, NoWindow}
pub use Rattle.session_model.specs.declared.refusal.Refusal.TheVariants.{NotMultiuser, Regions, UnknownUser, Windows}
pub use Rattle.session_model.specs.declared.refusal.Verdict.{Verdict}
pub use Rattle.std.proofs.Common.{Bool, Err, List, None, Ok, Option, Result, Some, [], ap, append_assoc, arith, drop}
pub use Rattle.std.proofs.Common.{false, filter, inl, inr, length, map, not, refl, subst, suc, sym, take, true, zero, ℕ}
pub use Rattle.std.proofs.Common.{◌%◌, ◌++◌, ◌+◌, ◌-◌, ◌/◌, ◌<◌, ◌∙◌, ◌∷◌, ◌≡◌}
pub use Rattle.std.proofs.lemmas.Bool.Decides.{nat_tests}
pub use Rattle.std.proofs.lemmas.Option.{slice_get-map}
pub use Rattle.std.specs.List.{flat_map, insert, list_any, range_with_len, remove}
pub use Rattle.std.specs.Option.{is_some, option_and_then, option_map, option_map_or, option_or}
pub use Rattle.std.specs.Prelude.{codes, decimal, if◌then◌else◌, nat_eq, nat_le, nat_lt, slice_get, slice_set}
pub use Rattle.std.specs.Prelude.{unwrap_or, ◌&&◌, ◌==◌, ◌||◌, ◌⊎◌}
pub use Rattle.std.specs.Str.{bytes_eq}
pub use Rattle.terminal_model.specs.Reading.{Terminal, reads, ready}
pub use Rattle.terminal_model.specs.Writing.{Writing, writes as writes_one}
unfoldable pub use Rattle.terminal_model.specs.Writing.{writes_all}
pub use Rattle.windows_model.proofs.Matching.{append_match, filter_match, find_match, length_match, mapped_match}
pub use Rattle.windows_model.proofs.Matching.{weaker_match}
pub use Rattle.windows_model.specs.Matched.{BothOrNone, Matched}
