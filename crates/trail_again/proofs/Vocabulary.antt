-- What this crate's proofs take from definitions and from other crates.
pub use Rattle.acl.proofs.FollowingLemmas.{followed_by-append, same_user-sym}
pub use Rattle.acl.proofs.StandsForLemmas.{same_user-refl, same_user-true}
pub use Rattle.acl.specs.Commands.{known_name_fault, sets, sets_on}
pub use Rattle.acl.specs.History.{History, among, decided, decides_known, followed_by, greeting, has, is_known, latest}
pub use Rattle.acl.specs.History.{leaders_of, leaders_with, mask, may, preset_of, users_after, users_of, without_user}
pub use Rattle.acl.specs.Names.{before_zero, begins_with_letter, is_name, is_name_byte, name_of, named_by}
pub use Rattle.acl.specs.Same.{index_of_command, same_bit, same_command, same_object, same_preset, same_user}
pub use Rattle.acl.specs.command_name.TheConstants.CommandName.{ALL}
pub use Rattle.acl.specs.declared.act.Act.{Act}
pub use Rattle.acl.specs.declared.act.LockMode.{LockMode}
pub use Rattle.acl.specs.declared.act.Object.{Object}
pub use Rattle.acl.specs.declared.act.Object.TheVariants.{Command, Window as window_object}
pub use Rattle.acl.specs.declared.act.PresetKind.{PresetKind}
pub use Rattle.acl.specs.declared.bits.Bit.{Bit}
pub use Rattle.acl.specs.declared.bits.Bit.TheVariants.{Execute, Read, Write}
pub use Rattle.acl.specs.declared.bits.BitChange.{BitChange}
pub use Rattle.acl.specs.declared.command_name.CommandName.{CommandName}
pub use Rattle.acl.specs.declared.entries.AclFault.{AclFault}
pub use Rattle.acl.specs.declared.entries.AclFault.TheVariants.{NoSuchGroup, OwnerKept, TooManyGroups, TooManyUsers}
pub use Rattle.acl.specs.declared.entries.AclFault.TheVariants.{UnknownUser}
pub use Rattle.acl.specs.declared.entries.MaskEntry.{MaskEntry}
pub use Rattle.acl.specs.declared.entries.MaskScope.{MaskScope}
pub use Rattle.acl.specs.declared.leaders.Edition.{Edition}
pub use Rattle.acl.specs.declared.leaders.Edition.TheVariants.{First, Second}
pub use Rattle.acl.specs.declared.user_id.UserId.{UserId}
pub use Rattle.acl.specs.slots.TheConstants.{USERS}
pub use Rattle.command_lang.proofs.Fits.{AllFit, Fits, no_faults}
pub use Rattle.command_lang.proofs.Scalars.{AllText, and-both, and-parts}
pub use Rattle.command_lang.specs.Names.{name_of as order_name, name_text}
unfoldable pub use Rattle.command_lang.specs.Names.{command_named}
pub use Rattle.command_lang.specs.Needs.{needs}
pub use Rattle.command_lang.specs.Printing.{is_plain, printed_word, printed_words, quoted}
pub use Rattle.command_lang.specs.Relation.{read_line}
pub use Rattle.command_lang.specs.Values.{is_empty_text}
pub use Rattle.command_lang.specs.declared.command.Command.{Command as Order}
pub use Rattle.command_lang.specs.declared.command.Mask.{Mask}
pub use Rattle.hub.specs.Acts.{CanFollow, can_follow}
pub use Rattle.hub.specs.Judging.{AreGood}
pub use Rattle.line_fields.specs.Parts.{blank, colon, preset_text}
pub use Rattle.program_words.specs.SetupLines.{is_feed}
pub use Rattle.session.specs.Checks.{checks_by, first_fault}
pub use Rattle.session.specs.Commands.{does, mask_entries}
pub use Rattle.session.specs.Deeds.{acting}
pub use Rattle.session.specs.Events.{outcome}
pub use Rattle.session.specs.Lines.{Caller, line_caller}
pub use Rattle.session.specs.Naming.{every_command, objects_of}
pub use Rattle.session.specs.Setup.{AreDone, StopsAt, command_of, if_named, if_spoken, spoken}
pub use Rattle.session.specs.Tables.{Tables, Window, fresh}
pub use Rattle.std.proofs.Common.{Bool, Err, List, None, Ok, Option, Some, [], ap, append_assoc, arith, codes, cond}
pub use Rattle.std.proofs.Common.{drop, false, filter, if◌then◌else◌, length, length-append, map, not, refl}
pub use Rattle.std.proofs.Common.{slice_index_or, subst, suc, sym, take, true, unwrap_or, zero, ℕ, ◌&&◌, ◌++◌, ◌+◌, ◌<◌}
pub use Rattle.std.proofs.Common.{◌||◌, ◌∙◌, ◌∷◌, ◌≡◌, ◌≤◌}
pub use Rattle.std.proofs.Math.Seq.{drop-append_seam, take-append_seam}
pub use Rattle.std.proofs.lemmas.Bool.Decides.{nat_tests}
pub use Rattle.std.proofs.lemmas.List.{append-nil}
pub use Rattle.std.specs.List.{AllByRecursion, flat_map, list_all, list_any, slice_split}
pub use Rattle.std.specs.Option.{option_and_then, option_map, option_or}
pub use Rattle.std.specs.Prelude.{IsOk, is_none, is_ok, nat_le, nat_lt, replicate, ◌-◌, ◌==◌, ◌^◌}
pub use Rattle.std.specs.Str.{IsAscii, bytes_eq, chars, is_utf8}
pub use Rattle.trail_again.specs.Restored.{BeginsAsTaken, IsRestored, Restores, SetupRestores}
pub use Rattle.trail_again.specs.Taking.{AreTaken, session_after}
pub use Rattle.trail_rights.specs.Marks.{entries_in}
pub use Rattle.trail_setup.specs.Giving.{Part}
pub use Rattle.trail_setup.specs.Keeping.{IsAfter, bit_in}
pub use Rattle.trail_setup.specs.Lines.{Kind, PutsLines, bits_text, given_text, line}
pub use Rattle.trail_setup.specs.Masks.{Known, all_bits, are_any, closed_bits, differing, has_on_all, is_first, is_lent}
pub use Rattle.trail_setup.specs.Masks.{lent_text, mask_in, mask_kind, mask_parts, mask_word, other_head, other_parts}
pub use Rattle.trail_setup.specs.Masks.{owner_head, parts_by, preset_in, said_bits, word_of, words_in, words_of}
pub use Rattle.trail_setup.specs.Setup.{later_parts, later_start, mode_text, others_of, parts_for, state_parts}
pub use Rattle.trail_setup.specs.declared.state.SetupState.{SetupState}
pub use Rattle.writelock.specs.Holding.{default_of}
