-- What this crate's proofs take from definitions and from other crates.
pub use Rattle.acl.specs.Names.{is_name, is_name_byte, name_of, named_by}
pub use Rattle.acl.specs.declared.leaders.Edition.{Edition}
pub use Rattle.acl.specs.declared.user_id.UserId.{UserId}
pub use Rattle.clap.proofs.WalkLemmas.{first_value-rows, one_text-rows}
pub use Rattle.clap.specs.Words.{Text, first_of, found_of, matches_of, one_of, one_text, rows_of}
pub use Rattle.program_words.specs.SetupLines.{Line, commands_in, line_of}
pub use Rattle.session.specs.Fields.{if_short, if_utf8, number_of, title_of, value_of, window_of}
pub use Rattle.session.specs.Played.{IfNotUnderstood, IsBad, OfScript, Played, PlayedPart, Plays, PlaysAll, PlaysUntil}
pub use Rattle.session.specs.Played.{Runs, client_lines, filled, printed, step_lines, views, views_if}
pub use Rattle.session.specs.Printed.{cell_text, effect_line, escaped, line, reply_line, row_line, view_lines}
pub use Rattle.session.specs.Script.{event_of}
pub use Rattle.session.specs.ScriptLines.{lines_of, with_byte}
pub use Rattle.session.specs.Setup.{AreDone, Behind, IfRefused, Refuses, SetsUp, StopsAt, command_of, spoken}
pub use Rattle.session.specs.Words.{Simulates, edition_text, flag_text, muxsim}
pub use Rattle.session_core.specs.Headline.{AllSteps, IsViewOf, Keeps as KeepsPromise, Serves, SomeRun, effects_of}
pub use Rattle.session_core.specs.Headline.{last_reply, replies_of, untaken_events, untaken_keys, with_steps}
pub use Rattle.session_core.specs.Headline.{without_keys}
pub use Rattle.session_core.specs.Stands.{StandsFor, Takes, entry_of}
pub use Rattle.session_core.specs.declared.session.Session.{Session}
pub use Rattle.session_laws.proofs.Lists.{and_second, row_serial}
pub use Rattle.session_model.specs.Run.{drawn, drawn_on, tables_from, tables_of}
pub use Rattle.session_model.specs.Sound.{AreSound, Rises, client_serials}
pub use Rattle.session_model.specs.Texts.{text_of}
pub use Rattle.session_model.specs.Trace.{Attach, Command, Draw, Entry, EventValue, Keys, Open, Reply, Trace, begun}
pub use Rattle.session_model.specs.Trace.{happening, with_step}
pub use Rattle.session_model.specs.declared.event.Effect.{Effect}
pub use Rattle.std.proofs.Common.{Bool, Err, List, None, Ok, Option, Result, Some, [], ap, append_assoc, ap₂, arith}
pub use Rattle.std.proofs.Common.{drop, false, get_or, inl, length, length-append, map, refl, rules, subst, suc, sym}
pub use Rattle.std.proofs.Common.{take, true, vec_items, ℕ, ◌++◌, ◌+◌, ◌-◌, ◌<◌, ◌^◌, ◌∙◌, ◌∷◌, ◌≡◌, ◌≤◌}
pub use Rattle.std.proofs.lemmas.Bool.Decides.{nat_tests}
pub use Rattle.std.proofs.lemmas.Fmt.{hex_byte, length-decimal-le}
pub use Rattle.std.proofs.lemmas.Grind.{flat_map-append}
pub use Rattle.std.proofs.lemmas.List.{append-nil, map-append}
pub use Rattle.std.specs.Fmt.{decimal}
pub use Rattle.std.specs.Io.BufRead.{DropsThrough, drop_through, first_piece, strip_last, take_through}
pub use Rattle.std.specs.Io.Buffered.{reader_buffer, reader_capacity, reader_inner, reader_remaining}
pub use Rattle.std.specs.Io.Iter.{YieldsKnownPiece, split_byte, split_known_bytes}
pub use Rattle.std.specs.Io.KnownBytes.{Appends, IsAtEnd, Keeps, prepend_known}
pub use Rattle.std.specs.Iterator.Adapters.{enumerate_count, enumerate_source}
pub use Rattle.std.specs.List.{AllByRecursion, flat_map, list_all}
pub use Rattle.std.specs.Prelude.{IfErr, IfOk, IfSome, IsErrAnd, MatchOption, MatchResult, codes, cond, if◌then◌else◌}
pub use Rattle.std.specs.Prelude.{is_ok, min, nat_le, nat_lt, option_and_then, option_copied, option_map, ◌&&◌, ◌==◌}
pub use Rattle.std.specs.Str.{IsUtf8, bytes_eq, is_utf8}
pub use Rattle.std.specs.String.{string_bytes}
