-- What this crate's proofs take from definitions and from other crates.
pub use Rattle.acl.proofs.AsideLemmas.{StandsFor-aside}
pub use Rattle.acl.proofs.FollowingLemmas.{followed_by-append}
pub use Rattle.acl.specs.Commands.{Answers, change_fault, chosen_leader, known_name_fault, sets, sets_on}
pub use Rattle.acl.specs.History.{History, among, followed_by, is_open, leaders_of, may, open_count, there, users_of}
pub use Rattle.acl.specs.Same.{same_user}
pub use Rattle.acl.specs.Table.{StandsFor, Table}
pub use Rattle.acl.specs.declared.act.Act.{Act}
pub use Rattle.acl.specs.declared.act.Act.TheVariants.{Known, Set}
pub use Rattle.acl.specs.declared.act.Object.{Object}
pub use Rattle.acl.specs.declared.act.Object.TheVariants.{Command, Window}
pub use Rattle.acl.specs.declared.bits.Bit.{Bit}
pub use Rattle.acl.specs.declared.bits.Bit.TheVariants.{Execute, Read, Write}
pub use Rattle.acl.specs.declared.bits.BitChange.{BitChange}
pub use Rattle.acl.specs.declared.entries.AclFault.TheVariants.{OwnerKept, TooManyUsers, UnknownUser}
pub use Rattle.acl.specs.declared.leaders.Edition.{Edition}
pub use Rattle.acl.specs.declared.user_id.UserId.{UserId}
pub use Rattle.rights.specs.Acts.{CanFollow, leader_in}
pub use Rattle.rights.specs.Clients.{Differ, last_in}
pub use Rattle.rights.specs.Following.{Follows, Redoes, StandsAfter, is_nameable}
pub use Rattle.rights.specs.Runs.{IsUnlocked, is_unheld}
pub use Rattle.rights.specs.declared.rights.Rights.{Rights}
pub use Rattle.std.proofs.Common.{Bool, List, None, Option, Some, [], ap, append-nil, false, if◌then◌else◌, is_none}
pub use Rattle.std.proofs.Common.{is_some, length, not, refl, subst, sym, true, ℕ, ◌&&◌, ◌++◌, ◌||◌, ◌∙◌, ◌∷◌, ◌≡◌}
pub use Rattle.std.proofs.lemmas.Bool.{eqb-true, false≢true}
pub use Rattle.std.proofs.lemmas.List.Elements.{All-cons, All-nil}
pub use Rattle.std.proofs.lemmas.Result.{IfOk-weaker}
pub use Rattle.std.specs.List.{AllByRecursion, list_any}
pub use Rattle.std.specs.Option.{option_map_or}
pub use Rattle.std.specs.Prelude.{All, take, ◌==◌}
pub use Rattle.writelock.specs.Holding.{clients_of, holder, mode_of}
pub use Rattle.writelock.specs.LockTable.{LocksStandFor}
pub use Rattle.writelock.specs.declared.locks.Locks.{Locks}
