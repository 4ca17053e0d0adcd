-- What this crate's proofs take from definitions and from other crates.
pub use Rattle.acl.specs.declared.bits.Bit.{Bit}
pub use Rattle.acl.specs.declared.bits.BitChange.{BitChange}
pub use Rattle.acl.specs.declared.command_name.CommandName.{CommandName}
pub use Rattle.command_lang.specs.LineFaults.{line_faults, named_faults, no_memory}
pub use Rattle.command_lang.specs.MaskFaults.{mask_fault, unless}
pub use Rattle.command_lang.specs.Meaning.{bare, command_of, line_command, texts_of, with_word, with_words}
pub use Rattle.command_lang.specs.Names.{name_of, name_text}
unfoldable pub use Rattle.command_lang.specs.Names.{command_named}
pub use Rattle.command_lang.specs.Printing.{bits_word, items_word, mask_word, printed_words, quoted, words_of}
unfoldable pub use Rattle.command_lang.specs.Printing.{printed}
pub use Rattle.command_lang.specs.ReadsBack.{ReadsBack}
pub use Rattle.command_lang.specs.Relation.{HasWords, NoneBefore, Refuses, Relates, command_or, faults_of, read_line}
pub use Rattle.command_lang.specs.Rows.{takes}
pub use Rattle.command_lang.specs.Table.{at, at_place, first_of, judged, kind_at, kind_fault, least, word_fault}
unfoldable pub use Rattle.command_lang.specs.Table.{words_faults}
pub use Rattle.command_lang.specs.Values.{bit_of, bits_after, bits_of, change_of, coding_in, goes_on, has_empty_item}
pub use Rattle.command_lang.specs.Values.{is_bits, is_digit, is_empty_text, is_letter, is_number, is_sign, is_vertical}
pub use Rattle.command_lang.specs.Values.{items_of, leader_of, lock_mode_in, mask_of, mask_users, number_after}
pub use Rattle.command_lang.specs.Values.{number_in, sign_place, switch_in, users_of, value_after}
pub use Rattle.command_lang.specs.declared.command.Command.{Command}
pub use Rattle.command_lang.specs.declared.fault.FaultKind.{FaultKind}
pub use Rattle.command_lang.specs.declared.fault.ParseFault.{ParseFault}
pub use Rattle.command_lang.specs.declared.rows.Words.{Words}
pub use Rattle.std.proofs.Common.{Bool, Err, List, None, Ok, OnOk, Option, Result, Some, [], ap, append_assoc, arith}
pub use Rattle.std.proofs.Common.{cond, drop, drop-cons, false, get_or, inl, inr, length, lit<, map, not}
pub use Rattle.std.proofs.Common.{option_to_list, refl, rules, subst, suc, sym, take, tests, true, true≢false}
pub use Rattle.std.proofs.Common.{unwrap_or, zero, ℕ, ◌%◌, ◌&&◌, ◌*◌, ◌++◌, ◌+◌, ◌-◌, ◌/◌, ◌<◌, ◌^◌, ◌||◌, ◌∙◌, ◌∷◌}
pub use Rattle.std.proofs.Common.{◌≡◌, ◌≢◌, ◌≤◌, ◌⊎◌}
pub use Rattle.std.proofs.Math.Utf8.{scalar, scalars}
pub use Rattle.std.proofs.lemmas.Bool.Decides.{nat_tests}
pub use Rattle.std.proofs.lemmas.Iterator.{YieldsList-from_chars, YieldsList-from_slice}
pub use Rattle.std.proofs.lemmas.Iterator.Consumers.{YieldsList-at, YieldsList-end, YieldsList-turn}
pub use Rattle.std.proofs.lemmas.Iterator.Splits.{YieldsList-from_str_split}
pub use Rattle.std.proofs.lemmas.List.{append-nil, length_push}
pub use Rattle.std.proofs.lemmas.Result.{IfErr-weaker, IfOk-weaker, on_ok_weaker}
pub use Rattle.std.proofs.lemmas.Str.{IsUtf8-from_is_utf8, encodes-chars, is_utf8-from_IsUtf8, scalars-chars}
pub use Rattle.std.specs.Fmt.{decimal}
pub use Rattle.std.specs.List.{list_all}
pub use Rattle.std.specs.Option.{is_some, option_and_then, option_map, option_map_or}
pub use Rattle.std.specs.Prelude.{MatchOption, if◌then◌else◌, nat_le, nat_lt, ◌==◌}
pub use Rattle.std.specs.Str.{IsUtf8, chars, encode_utf8_all, is_utf8}
pub use Rattle.std.specs.String.{string_bytes}
pub use Rattle.strings.proofs.Readings.{one_cut, words-are, words-cut}
pub use Rattle.strings.specs.Grammar.{Character, Double, Escaped, IsCut, Line, Part, Parts, is_octal, octal_front, size}
pub use Rattle.strings.specs.declared.text.Word.{Word}
