-- What this crate's proofs take from definitions and from other crates.
pub use Rattle.acl.specs.Names.{name_of, named_by}
pub use Rattle.acl.specs.declared.act.Act.{Act}
pub use Rattle.acl.specs.declared.leaders.Edition.{Edition}
pub use Rattle.acl.specs.declared.user_id.UserId.{UserId}
pub use Rattle.command_lang.specs.Names.{name_text}
pub use Rattle.hub.specs.Trails.{Ending, Entry}
pub use Rattle.hub.specs.kept.Kept.{Kept}
pub use Rattle.line_fields.proofs.Digits.{number_again}
pub use Rattle.line_fields.proofs.EventParts.{word_part}
pub use Rattle.line_fields.proofs.Rows.{all_free}
pub use Rattle.line_fields.proofs.Words.{IsFree, first_field, first_word, free_append, is_other, one_word}
pub use Rattle.line_fields.specs.Acts.{act_text, verdict_text}
pub use Rattle.line_fields.specs.Cutting.{cut, is_byte, words, words_behind, ◌>>=◌}
pub use Rattle.line_fields.specs.Events.{Bytes, Field, Number, Parts, Serial, Text, Title, User, Value, Window, row_of}
pub use Rattle.line_fields.specs.Events.{word_of}
pub use Rattle.line_fields.specs.Parts.{bit_in, blank, colon, comma, field, mark, nobody, user_at}
pub use Rattle.line_fields.specs.Rows.{all_then, fields_in, made_in}
pub use Rattle.line_fields.specs.Sayable.{IsAct, IsNamed, IsSerial, IsVerdict}
pub use Rattle.line_fields.specs.declared.events.EventKind.{EventKind}
pub use Rattle.session.specs.Texts.{behind, separated, windows_number}
pub use Rattle.session.specs.refusal.Denied.{Denied}
pub use Rattle.session.specs.refusal.Refusal.{Refusal}
pub use Rattle.session.specs.refusal.Verdict.{Verdict}
pub use Rattle.std.proofs.Common.{IfSome, List, [], ap, append-nil, append_assoc, arith, length, length-append, refl}
pub use Rattle.std.proofs.Common.{rules, subst, suc, sym, take, ℕ, ◌++◌, ◌+◌, ◌<◌, ◌^◌, ◌∙◌, ◌∷◌, ◌≡◌, ◌≤◌}
pub use Rattle.std.proofs.lemmas.Bool.Decides.{nat_tests}
pub use Rattle.std.proofs.lemmas.List.{map_push, take_more}
pub use Rattle.std.proofs.lemmas.Slice.Eq.{bytes_eq-Decides}
pub use Rattle.std.specs.List.{AllByRecursion, flat_map, list_all}
pub use Rattle.std.specs.Prelude.{Bool, Err, MatchResult, None, Ok, Option, Result, Some, codes, cond, decimal, false}
pub use Rattle.std.specs.Prelude.{map, nat_le, not, option_copied, option_map, true, ◌&&◌, ◌==◌, ◌⊎◌}
pub use Rattle.std.specs.Str.{IsUtf8, bytes_eq, is_utf8}
pub use Rattle.trail_lines.specs.Entries.{Noted, Said, checked_text, done_text, if_spelled, line_of, note_in, noted}
pub use Rattle.trail_lines.specs.Entries.{noting, said, tail_in, tail_of, tail_text}
unfoldable pub use Rattle.trail_lines.specs.Entries.{notes_of, read_line, said_in}
pub use Rattle.trail_lines.specs.Events.{event_then, field_then, parts_then, text_field, title_of, window_text}
pub use Rattle.trail_lines.specs.Halting.{AreRead, Halts, IsEnd, IsReadTo, NextIs, TellsOf, is_last}
pub use Rattle.trail_lines.specs.Lines.{ComesAs, OfKnown, feed}
pub use Rattle.trail_lines.specs.Reading.{HasRead, IsWrong, entries_in, entry_in}
pub use Rattle.trail_lines.specs.Replies.{denied_then, leaders_text, reply_text, why_text, with_leader}
unfoldable pub use Rattle.trail_lines.specs.Replies.{leaders_of}
pub use Rattle.trail_lines.specs.Sayable.{AreBytes, AreFields, AreLeaders, IsDenied, IsEntry, IsEvent, IsField}
pub use Rattle.trail_lines.specs.Sayable.{IsNumberIfAny, IsRefusal, IsReply, IsSayable, IsSpelledSo, ReadsPrinted}
pub use Rattle.trail_lines.specs.Times.{time_after, times_after}
pub use Rattle.trail_lines.specs.declared.audit.Audit.{Audit}
pub use Rattle.trail_lines.specs.declared.audit.Times.{Times}
pub use Rattle.trail_lines.specs.declared.halt.Halt.{Halt}
