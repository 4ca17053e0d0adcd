-- What this crate's proofs take from definitions and from other crates.
pub use Rattle.acl.proofs.StandsForLemmas.{may-StandsFor, same_user-refl}
pub use Rattle.acl.specs.History.{History, decided, is_open, may, open_count}
pub use Rattle.acl.specs.Lists.{table_of}
pub use Rattle.acl.specs.Same.{same_user}
pub use Rattle.acl.specs.Slots.{Slots, SlotsStandFor, free_slot, is_window, slot_of, without_window}
pub use Rattle.acl.specs.declared.act.Act.{Act}
pub use Rattle.acl.specs.declared.act.Act.TheVariants.{Attached, Closed, Entered, Left, Mode, Opened, Parted}
pub use Rattle.acl.specs.declared.act.LockMode.{LockMode}
pub use Rattle.acl.specs.declared.act.Object.TheVariants.{Command, Window}
pub use Rattle.acl.specs.declared.bits.Bit.TheVariants.{Execute, Read, Write}
pub use Rattle.acl.specs.declared.leaders.Edition.{Edition}
pub use Rattle.acl.specs.declared.user_id.UserId.{UserId}
pub use Rattle.std.proofs.Common.{Bool, List, None, Option, Some, [], ap, arith, false, if◌then◌else◌, nat_eq, not}
pub use Rattle.std.proofs.Common.{refl, slice_index_or, slice_set, subst, sym, true, true≢false, ℕ, ◌&&◌, ◌==◌, ◌||◌}
pub use Rattle.std.proofs.Common.{◌∙◌, ◌∷◌, ◌≡◌}
pub use Rattle.std.specs.Option.{option_map, option_map_or}
pub use Rattle.writelock.specs.LockTable.{AreLocks, LocksStandFor, after_act, entered_by, frees, has_holder, left_by}
pub use Rattle.writelock.specs.LockTable.{lock_at, lock_by, lock_in, lock_of, opened_by, remaining, with_remaining}
pub use Rattle.writelock.specs.LockTable.{without_holder}
pub use Rattle.writelock.specs.declared.lock.Lock.{Lock}
