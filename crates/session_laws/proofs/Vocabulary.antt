-- What this crate's proofs take from other crates, and the facts of lists.
pub use Rattle.acl.proofs.StandsForLemmas.{same_user-refl, same_user-true}
pub use Rattle.acl.specs.Commands.{add_acts, added, change_acts, change_fault, group_acts, known_acts, known_name_fault}
pub use Rattle.acl.specs.Commands.{mask_acts, mask_fault, name_acts, name_sets, names_sets, new_acts, scope_acts, sets}
pub use Rattle.acl.specs.Commands.{sets_on, user_acts, with_name}
pub use Rattle.acl.specs.History.{History, among, decided, decides_known, followed_by, has, is_open, latest, leaders_of}
pub use Rattle.acl.specs.History.{mask, may, open_count, opening, preset_of, users_of}
pub use Rattle.acl.specs.Names.{named_by}
pub use Rattle.acl.specs.Same.{same_user}
pub use Rattle.acl.specs.declared.act.Act.{Act}
pub use Rattle.acl.specs.declared.act.Act.TheVariants.{Left}
pub use Rattle.acl.specs.declared.act.LockMode.{LockMode}
pub use Rattle.acl.specs.declared.act.LockMode.TheVariants.{Auto, Off, On}
pub use Rattle.acl.specs.declared.act.Object.{Object}
pub use Rattle.acl.specs.declared.act.PresetKind.{PresetKind}
pub use Rattle.acl.specs.declared.bits.Bit.{Bit}
pub use Rattle.acl.specs.declared.bits.Bit.TheVariants.{Execute, Read, Write}
pub use Rattle.acl.specs.declared.bits.BitChange.{BitChange}
pub use Rattle.acl.specs.declared.command_name.CommandName.{CommandName}
pub use Rattle.acl.specs.declared.command_name.CommandName.TheVariants.{Screen}
pub use Rattle.acl.specs.declared.leaders.Edition.{Edition}
pub use Rattle.acl.specs.declared.leaders.Edition.TheVariants.{First, Second}
pub use Rattle.acl.specs.declared.entries.MaskEntry.{MaskEntry}
pub use Rattle.acl.specs.declared.entries.MaskScope.{MaskScope}
pub use Rattle.acl.specs.declared.entries.NewLeader.{NewLeader}
pub use Rattle.acl.specs.declared.entries.AclFault.{AclFault}
pub use Rattle.acl.specs.declared.user_id.UserId.{UserId}
unfoldable pub use Rattle.charsets.specs.Sets.{character_at}
unfoldable pub use Rattle.charsets.specs.Shifts.{mapped}
unfoldable pub use Rattle.charsets.specs.Utf8.{cut, piece as utf8_piece}
pub use Rattle.command_lang.proofs.Numbers.{AreSmall, line_small}
pub use Rattle.command_lang.specs.Lines.{words}
pub use Rattle.command_lang.specs.Meaning.{line_command}
pub use Rattle.command_lang.specs.Names.{name_of}
unfoldable pub use Rattle.command_lang.specs.Names.{command_named}
pub use Rattle.command_lang.specs.Needs.{needs, of_lock}
pub use Rattle.command_lang.specs.Relation.{command_or, faults_of}
pub use Rattle.command_lang.specs.Table.{first_of}
unfoldable pub use Rattle.command_lang.specs.Table.{words_faults}
pub use Rattle.command_lang.specs.declared.command.Command.{Command as Order}
pub use Rattle.command_lang.specs.declared.command.Leader.{Leader}
pub use Rattle.command_lang.specs.declared.command.Mask.{Mask}
pub use Rattle.command_lang.specs.declared.command.Users.{Users}
pub use Rattle.command_lang.specs.declared.fault.ParseFault.{ParseFault}
pub use Rattle.command_lang.specs.declared.needs.Needs.{Needs}
unfoldable pub use Rattle.control_parser.specs.Grammar.{functions_behind, piece}
pub use Rattle.keys.specs.Grammar.{Item, Rest, binding, bindings, bound, bound_items, command_key, ends_line, items}
pub use Rattle.keys.specs.Grammar.{key_items, line, line_after_key, line_items, nothing, prompt, rest_step, stays}
pub use Rattle.keys.specs.Grammar.{typed}
unfoldable pub use Rattle.keys.specs.Grammar.{items_from}
pub use Rattle.regions.specs.Layouts.{Arrangement, emptied, empty, kept_alone, one_region}
pub use Rattle.regions.specs.Pages.{has_room}
pub use Rattle.regions.specs.declared.rect.Rect.{Rect}
pub use Rattle.regions.specs.declared.layout.Shown.{Shown}
pub use Rattle.session_laws.proofs.Lists.{all_append, all_filter, all_made, all_map, all_of, all_passed, all_weaken}
pub use Rattle.session_laws.proofs.Lists.{and_first, and_second, both_true, contradicts, equal, filter_all, itself}
pub use Rattle.session_laws.proofs.Lists.{members, not_so, other_way, row_goes, row_goes as row_replaced, row_serial}
pub use Rattle.session_laws.proofs.Lists.{some_both, some_elim, some_gives, some_map, some_mapped, some_or, some_row}
pub use Rattle.session_laws.proofs.Lists.{some_weaken}
pub use Rattle.session_laws.specs.Changing.{MayChangeRights, RightsAreGated, SameLists, SameRights, changes_rights}
pub use Rattle.session_laws.specs.Changing.{opened_by, opens_window}
pub use Rattle.session_laws.specs.Confined.{AreConfined, AreShutOut, GrantsAreTheirs, came, circle, may_open}
pub use Rattle.session_laws.specs.Contained.{AllSteps, AreContained, AreGuests, ChangesAreTheirs, stood}
pub use Rattle.session_laws.specs.Entries.{all_delivered, all_keys, delivered_by, is_resize, keys_read}
pub use Rattle.session_laws.specs.Fit.{TablesStayFit}
pub use Rattle.session_laws.specs.Focus.{entered_by, entered_in, is_own_step, last_entered}
pub use Rattle.session_laws.specs.Gates.{DetachesItself, IsGranted, IsParted, ModeIsGated, parts_others, sets_mode}
pub use Rattle.session_laws.specs.Hidden.{events_from, has_opened, is_hidden, is_shown, shown_to, unhidden, with_shown}
pub use Rattle.session_laws.specs.Keeping.{Frees, FreesBy, IsFreed, LocksStayIn, LosesIn, LosesWindow}
pub use Rattle.session_laws.specs.Keyed.{DidItsRowByKeys, IsAnswered, IsNoCommand, IsSaid, KeysAreAnswered}
pub use Rattle.session_laws.specs.Keyed.{KeysDidTheirRow, KeysDoTheirRows, WasRefusedByKeys, WasTypedAlone, heard}
pub use Rattle.session_laws.specs.Keyed.{listed, typing}
pub use Rattle.session_laws.specs.Laws.{AreSaidOnce, CommandsAreRefusedSo, CommandsDoTheirRows, DidItsRow, IsRefusedSo}
pub use Rattle.session_laws.specs.Laws.{IsSaidOnce, LineDidItsRow, StepsKeepPromise, refusal_in, why_refused}
pub use Rattle.session_laws.specs.Locking.{Giver, HoldersMayWrite, HoldersStay, HoldersStayIn, IsPowerless}
pub use Rattle.session_laws.specs.Locking.{LocksAreTaken, MayFree, OfClient, OfNobody, TakesIt, client_user, giver_of}
pub use Rattle.session_laws.specs.Locking.{may_free, user_by, user_of}
pub use Rattle.session_laws.specs.Naming.{IsNamed, MayName, WindowsStayIn, names_its_window}
pub use Rattle.session_laws.specs.Observed.{Drawn, Observation, Replied, Told, drawn_for, drawn_to, is_any}
pub use Rattle.session_laws.specs.Observed.{is_client_of, is_for, is_users, observations, observed, observed_from}
pub use Rattle.session_laws.specs.Opening.{IsGivenByMasks}
pub use Rattle.session_laws.specs.Seeing.{seen_by, seen_if}
pub use Rattle.session_laws.specs.Watching.{IsSpectator, LeavesOthers, is_for_theirs, is_watching, lists_clients}
pub use Rattle.session_laws.specs.Watching.{others_clients}
pub use Rattle.session_laws.specs.WorkedAmong.{is_among}
pub use Rattle.session_laws.specs.WorkedConsoles.{guest}
pub use Rattle.session_laws.specs.WorkedDrawing.{after_draw, small}
pub use Rattle.session_laws.specs.WorkedOperators.{console}
pub use Rattle.session_laws.specs.WorkedPolicies.{InBoth, ann, jo, kim}
pub use Rattle.session_laws.specs.WorkedSetup.{bob, client, several, then_comes}
pub use Rattle.session_laws.specs.Written.{all_written, given_writing, is_own, order_writing, sizes_of, step_writing}
pub use Rattle.session_model.specs.Answering.{Ordered, answered, by_line, by_ruling, commanded, input_in, keyed}
pub use Rattle.session_model.specs.Answering.{keys_outcome, line_ruling, message_of, ordered, reading, says, says_same}
pub use Rattle.session_model.specs.Answering.{says_why, told, types, typing_verdicts, unsaid, with_listed}
pub use Rattle.session_model.specs.Checks.{checks, checks_by, first_fault, passes, refusal_of, typing_checks, verdict}
pub use Rattle.session_model.specs.Checks.{verdicts, where_needed, window_checks}
pub use Rattle.session_model.specs.Comings.{attach_checks, attaches, has_place, is_client_size, is_let_in}
pub use Rattle.session_model.specs.Comings.{is_window_size, new_client, new_window, open_checks, opens, outputs}
pub use Rattle.session_model.specs.Comings.{resized}
pub use Rattle.session_model.specs.Commands.{caller_client, changing_bits, coding_of, does, focus_of, is_taken}
pub use Rattle.session_model.specs.Commands.{known_fault, mask_entries, on_client, ruling}
pub use Rattle.session_model.specs.Deeds.{Answer, Deed, acting, arranges, both, changes, changing, closes, entering}
pub use Rattle.session_model.specs.Deeds.{enters, fits, former_of, hearing, input_of, is_of, listing, parts, removes}
pub use Rattle.session_model.specs.Deeds.{selects, shown_in_focus, tells, without_window, without_windows, writes}
unfoldable pub use Rattle.session_model.specs.Deeds.{given, refused_if, unless}
pub use Rattle.session_model.specs.Denials.{denied_on, entry_denial, lock_denial, number_of}
pub use Rattle.session_model.specs.Denying.{Asks, AsksFor, DenialsName, IsEntryMissing, IsLockHeld, IsTrueSay, IsWindow}
pub use Rattle.session_model.specs.Denying.{NamesTruly, ReplyNamesTruly, TellsByRight, TypesOn, numbered, object_named}
pub use Rattle.session_model.specs.Denying.{told_by}
pub use Rattle.session_model.specs.Events.{outcome, with_client_of, with_window_of}
pub use Rattle.session_model.specs.Framed.{IsFrame}
pub use Rattle.session_model.specs.Given.{Given, Typed, all_typed, commands_of, has_x, has_x_on, keys_typed, ok_of}
pub use Rattle.session_model.specs.Given.{order_in, stuffed, typed_by_client, with_order}
pub use Rattle.session_model.specs.Granted.{granted_view, layout_of, message_text, part_of_window, part_shown}
pub use Rattle.session_model.specs.Granted.{status_text, window_read}
pub use Rattle.session_model.specs.Keeps.{KeepsPromise, KeepsPromises, KeepsPromisesFrom}
pub use Rattle.session_model.specs.Keying.{command_item, is_command, items_behind, open_line, step_items, taken}
pub use Rattle.session_model.specs.Keying.{typed_bytes}
pub use Rattle.session_model.specs.Lines.{Caller, caller_of, line_caller, read_line}
pub use Rattle.session_model.specs.Naming.{every_command, every_window, free_number, has_number, higher, highest}
pub use Rattle.session_model.specs.Naming.{is_title, is_wide, item_objects, lower, lowest, names_of, new_leader_of}
pub use Rattle.session_model.specs.Naming.{objects_of, spelled, wide_objects, window_after, window_before, window_named}
pub use Rattle.session_model.specs.Naming.{with_number}
pub use Rattle.session_model.specs.Outcomes.{Outcome, done, finished, left_acts, left_acts_of, refused, reply_of}
pub use Rattle.session_model.specs.Outcomes.{where_passed}
pub use Rattle.session_model.specs.Promises.{ActsAsGranted, ChangesNothing, CommandsAct, DenialIsTold, DrawShows}
pub use Rattle.session_model.specs.Promises.{DrawShowsOf, IsClient, IsDoneBy, IsDoneByRight, IsEffectOf, IsFrameTo}
pub use Rattle.session_model.specs.Promises.{IsOn, IsOpen, IsTold, OnlyRead, SomeOf, inputs, is_answer_to, is_named}
pub use Rattle.session_model.specs.Promises.{is_owners, reaching, reply_wants_x, reporting, unread, wants_x, why_not}
pub use Rattle.session_model.specs.Promises.{why_not_into}
pub use Rattle.session_model.specs.Rights.{add_acts_in, group_fault_in, has_in, holder_in, leaders_in, may_in}
pub use Rattle.session_model.specs.Run.{DrawsWhereNeeded, HasEffects, IsDraw, IsRun, IsRunFrom, IsStep, after}
pub use Rattle.session_model.specs.Run.{deliveries, drawn, drawn_on, tables_from, tables_of, with_drawn}
pub use Rattle.session_model.specs.Sound.{ActsAgree, AreFit, AreSound, AreSoundRows, NumbersDiffer, Rises, ShowsOpen}
pub use Rattle.session_model.specs.Sound.{client_serials, window_serials}
pub use Rattle.session_model.specs.Tables.{Client, Tables, Window, client_at, focused, focused_window, fresh}
pub use Rattle.session_model.specs.Tables.{is_in_focus, is_known, is_window, known_users, row_of, shows, window_at}
pub use Rattle.session_model.specs.Tables.{with_client, with_layout, with_row, with_window}
pub use Rattle.session_model.specs.Terminals.{terminal_of}
pub use Rattle.session_model.specs.Texts.{by_number, client_item, clients_text, focus_text, group_text, in_order}
pub use Rattle.session_model.specs.Texts.{number_text, separated, text_of, window_item, windows_text}
pub use Rattle.session_model.specs.Trace.{Attach, Closed, Command, Detach, Draw, Entry, EventValue, Keys, Open, Output}
pub use Rattle.session_model.specs.Trace.{Reply, Resize, Trace}
pub use Rattle.session_model.specs.declared.refusal.Check.{Check}
pub use Rattle.session_model.specs.declared.refusal.Check.TheVariants.{Must as must, Right as right, Unlocked as unlocked}
pub use Rattle.session_model.specs.declared.event.Done.{Done}
pub use Rattle.session_model.specs.declared.event.Effect.{Effect}
pub use Rattle.session_model.specs.declared.event.Effect.TheVariants.{Deliver, Gone, Input, Say, Size}
pub use Rattle.session_model.specs.declared.event.Reason.{Reason}
pub use Rattle.session_model.specs.declared.event.Reason.TheVariants.{Detached, Killed, Quit, Removed, SingleUser}
pub use Rattle.session_model.specs.declared.event.StatusMessage.{StatusMessage}
pub use Rattle.session_model.specs.declared.event.StatusMessage.TheVariants.{Text}
pub use Rattle.session_model.specs.declared.refusal.EntryDenied.{EntryDenied as EntryDenial}
pub use Rattle.session_model.specs.declared.refusal.LockDenied.{LockDenied as LockDenial}
pub use Rattle.session_model.specs.declared.refusal.Refusal.{Refusal}
pub use Rattle.session_model.specs.declared.refusal.Refusal.TheVariants.{Acl, BadSize, EntryDenied, Line, LockDenied}
pub use Rattle.session_model.specs.declared.refusal.Refusal.TheVariants.{NoWindow, NotMultiuser, TooManyClients}
pub use Rattle.session_model.specs.declared.refusal.Refusal.TheVariants.{UnknownUser, Windows}
pub use Rattle.session_model.specs.declared.refusal.Verdict.{Verdict}
pub use Rattle.session_model.specs.rows.WindowsFault.TheVariants.{BadTitle, Full, NoSuchWindow}
pub use Rattle.std.proofs.Common.{Bool, Err, List, None, Ok, Option, Result, Some, [], ap, append_assoc, arith, drop}
pub use Rattle.std.proofs.Common.{false, filter, inl, inr, length, map, not, refl, reverse, subst, suc, sym, take, true}
pub use Rattle.std.proofs.Common.{true≢false, zero, ℕ, ⊎_elim, ◌++◌, ◌+◌, ◌-◌, ◌<◌, ◌∙◌, ◌∷◌, ◌≡◌, ◌≤◌}
pub use Rattle.std.proofs.lemmas.Bool.{or_parts}
pub use Rattle.std.proofs.lemmas.Bool.Decides.{nat_tests}
pub use Rattle.std.proofs.lemmas.List.{reverse-append}
pub use Rattle.std.proofs.lemmas.Slice.Eq.{bytes_eq-Decides}
pub use Rattle.std.specs.Cmp.Lexicographic.{pointwise}
unfoldable pub use Rattle.std.specs.Fmt.{digits}
pub use Rattle.std.specs.List.{AllByRecursion, flat_map, insert, list_all, list_any, range_with_len, remove}
pub use Rattle.std.specs.Option.{option_and_then, option_map, option_map_or, option_or}
pub use Rattle.std.specs.Prelude.{MatchOption, codes, decimal, find, if◌then◌else◌, is_none, is_ok, is_some, nat_eq}
pub use Rattle.std.specs.Prelude.{nat_lt, slice_get, slice_set, unwrap_or, ◌&&◌, ◌==◌, ◌^◌, ◌||◌, ◌⊎◌}
pub use Rattle.std.specs.Str.{bytes_eq}
unfoldable pub use Rattle.std.specs.Str.{chars, is_utf8}
unfoldable pub use Rattle.strings.specs.Lines.{double, single}
unfoldable pub use Rattle.terminal_model.specs.Printing.{columns_of}
unfoldable pub use Rattle.terminal_model.specs.Reading.{act, act_all, read_byte, read_unit, read_units, reads}
pub use Rattle.terminal_model.specs.Shows.{LooksLike, NeedsDraw, NeedsNoDraw, ShowsFromAny, View}
unfoldable pub use Rattle.terminal_model.specs.Table.{acted_from}
pub use Rattle.terminal_model.specs.Writing.{Writing}
unfoldable pub use Rattle.terminal_model.specs.Writing.{writes_all}
unfoldable pub use Rattle.unicode_width.specs.Width.{char_width}
unfoldable pub use Rattle.view.specs.Granted.{view_in}
pub use Rattle.writelock.specs.Holding.{clients_of, default_of, ends, has_client, holder, is_auto, is_off, is_on, kept}
pub use Rattle.writelock.specs.Holding.{mode_of, or_else, releases}
pub use Rattle.writelock.specs.LockTable.{frees, stops_nobody_but}
