-- What this crate's proofs take from definitions and from other crates.
pub use Rattle.acl.specs.Commands.{AllMayFollow, Answers, IsAside, Keeps, MayFollow, add_acts, added, change_acts}
pub use Rattle.acl.specs.Commands.{change_fault, chosen_leader, group_acts, group_fault, known_acts, known_name_fault}
pub use Rattle.acl.specs.Commands.{leader_fault, makes_known, mask_acts, mask_fault, name_acts, name_sets, names_sets}
pub use Rattle.acl.specs.Commands.{names_user, new_acts, removal_acts, scope_acts, sets, sets_mask, sets_on, user_acts}
pub use Rattle.acl.specs.Commands.{with_name, with_names}
pub use Rattle.acl.specs.History.{History, among, decided, decides_known, followed_by, greeting, has, is_known, is_open}
pub use Rattle.acl.specs.History.{latest, leaders_of, leaders_with, mask, may, open_count, opening, preset_of, there}
pub use Rattle.acl.specs.History.{users_of, without_user}
pub use Rattle.acl.specs.Lists.{table_of}
pub use Rattle.acl.specs.Table.{StandsFor, Table, bits_on, granted, is_there, knows, lets, mask_bits, new_row}
pub use Rattle.acl.specs.Table.{opening_bits, preset_bits, row_of, same_pair, users_in, with_right, with_window}
pub use Rattle.acl.specs.Table.{without_leader}
pub use Rattle.acl.specs.declared.rows.Row.{Row}
pub use Rattle.acl_words.proofs.InPlace.{length-mapped_below, mapped_below, mapped_below-all}
pub use Rattle.acl_words.proofs.SameLemmas.{same_user-true}
pub use Rattle.acl_words.specs.BitSets.{all_bits, allows, no_bits, with_bit}
pub use Rattle.acl_words.specs.Same.{index_of_command, same_bit, same_object, same_preset, same_user}
pub use Rattle.acl_words.specs.Slots.{SlotsStandFor, is_window, slot_of}
pub use Rattle.acl_words.specs.declared.act.Act.{Act}
pub use Rattle.acl_words.specs.declared.act.Act.TheVariants.{Closed, Gone, Grouped, Known, Masked, Opened, Preset, Set}
pub use Rattle.acl_words.specs.declared.act.Object.{Object}
pub use Rattle.acl_words.specs.declared.act.Object.TheVariants.{Command, Window}
pub use Rattle.acl_words.specs.declared.act.PresetKind.{PresetKind}
pub use Rattle.acl_words.specs.declared.bits.Bit.{Bit}
pub use Rattle.acl_words.specs.declared.bits.BitChange.{BitChange}
pub use Rattle.acl_words.specs.declared.bits.Bits.{Bits}
pub use Rattle.acl_words.specs.declared.entries.AclFault.{AclFault}
pub use Rattle.acl_words.specs.declared.leaders.Edition.{Edition}
pub use Rattle.acl_words.specs.declared.user_id.UserId.{UserId}
pub use Rattle.indexmap.specs.IndexMap.{insert_entry, set_value_at, spare}
pub use Rattle.std.proofs.Common.{All, Bool, Err, IsSome, List, None, Ok, OnOk, Option, Result, Some, [], add-one, ap}
pub use Rattle.std.proofs.Common.{append_assoc, arith, below_more, cond, count_by, drop, drop-cons, eq-eqb, false}
pub use Rattle.std.proofs.Common.{filter, get_or-set_other, get_or-set_same, if◌then◌else◌, is_some, length, lit<, map}
pub use Rattle.std.proofs.Common.{nat_le, not, refl, replicate, rules, slice_get, slice_index_or, slice_set, subst, suc}
pub use Rattle.std.proofs.Common.{sym, take, true, true≢false, unwrap_or, zero, ℕ, ◌&&◌, ◌++◌, ◌+◌, ◌<◌, ◌==◌, ◌||◌}
pub use Rattle.std.proofs.Common.{◌∙◌, ◌∷◌, ◌≡◌, ◌≢◌, ◌≤◌}
pub use Rattle.std.proofs.lemmas.List.Folds.{list_any-append}
pub use Rattle.std.proofs.lemmas.Result.{IfOk-at_ok, err_from_is_err_and}
pub use Rattle.std.specs.List.{AllByRecursion, list_any}
pub use Rattle.std.specs.Map.{keys_of, lookup}
pub use Rattle.std.specs.Option.{option_map, option_map_or, option_or}
