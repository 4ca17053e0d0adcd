-- What this crate's proofs take from definitions and from other crates.
pub use Rattle.acl.specs.History.{History, decided, followed_by, has, is_known, is_open, mask, preset_of, users_of}
pub use Rattle.acl.specs.Names.{name_of}
pub use Rattle.acl.specs.Same.{same_bit, same_object, same_preset, same_user}
pub use Rattle.acl.specs.command_name.TheConstants.CommandName.{ALL}
pub use Rattle.acl.specs.declared.act.Act.{Act}
pub use Rattle.acl.specs.declared.act.Object.TheVariants.{Command, Window}
pub use Rattle.acl.specs.declared.act.PresetKind.{PresetKind}
pub use Rattle.acl.specs.declared.bits.Bit.{Bit}
pub use Rattle.acl.specs.declared.leaders.Edition.{Edition}
pub use Rattle.acl.specs.declared.user_id.UserId.{UserId}
pub use Rattle.command_lang.specs.Names.{name_text}
pub use Rattle.hub.specs.Following.{StandsAfter}
pub use Rattle.hub.specs.Acts.{CanFollow, can_follow}
pub use Rattle.std.proofs.Common.{Bool, Err, List, None, Ok, Option, Result, Some, [], add-one, ap, append-nil}
pub use Rattle.std.proofs.Common.{append_assoc, arith, drop, false, if◌then◌else◌, is_none, length, length-append, map}
pub use Rattle.std.proofs.Common.{nat_lt, not, refl, rules, set, slice_index_or, subst, suc, sym, take, true, unwrap_or}
pub use Rattle.std.proofs.Common.{zero, ℕ, ◌&&◌, ◌++◌, ◌+◌, ◌-◌, ◌<◌, ◌==◌, ◌||◌, ◌∙◌, ◌∷◌, ◌≡◌, ◌≤◌}
pub use Rattle.std.proofs.lemmas.Bool.{false≢true}
pub use Rattle.std.proofs.lemmas.Bool.Decides.{nat_tests}
pub use Rattle.std.proofs.lemmas.Fn.{filter_same}
pub use Rattle.std.proofs.lemmas.List.{flat_map_more, set_split, take_more}
pub use Rattle.std.specs.List.{AllByRecursion, flat_map, list_all, list_any}
pub use Rattle.std.specs.Prelude.{OnOk, codes, cond, filter}
pub use Rattle.trail_rights.proofs.Stepping.{joins_next, passes, stops, take_past}
pub use Rattle.trail_setup.specs.Alone.{HasEntries, alone, is_of_entries}
pub use Rattle.trail_setup.specs.Giving.{Part, PutsAll, PutsPart, all_given, first_text, given_kind, given_line}
pub use Rattle.trail_setup.specs.Giving.{given_words, has_just, leader_line, leader_lines, lines_of, users_kind}
pub use Rattle.trail_setup.specs.Keeping.{FollowsAct, FollowsEach, masked_in, with_bit}
pub use Rattle.trail_setup.specs.Lines.{HoldWords, Kind, PutsLines, begun, kind_of, line, on_lines}
pub use Rattle.trail_setup.specs.Masks.{Known, Stands, all_bits, are_any, has_if_back, has_on_all, is_first, is_lent}
pub use Rattle.trail_setup.specs.Masks.{known_in, lent_text, mask_in, mask_kind, mask_parts, other_parts, owner_head}
pub use Rattle.trail_setup.specs.Masks.{parts_by, preset_in, word_of, words_in, words_of}
pub use Rattle.trail_setup.specs.declared.state.SetMask.{SetMask}
pub use Rattle.trail_setup.specs.declared.state.SetupState.{SetupState}
