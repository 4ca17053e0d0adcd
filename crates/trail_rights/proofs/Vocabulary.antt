-- What this crate's proofs take from definitions and from other crates.
pub use Rattle.acl.proofs.InPlace.{drop-next, drop-past}
pub use Rattle.acl.specs.History.{History, decided, decides_known, decides_open, decision, followed_by, greeting, has}
pub use Rattle.acl.specs.History.{is_known, is_open, latest, mask, there, users_of}
pub use Rattle.acl.specs.declared.act.Act.{Act}
pub use Rattle.acl.specs.declared.act.Act.TheVariants.{Known}
pub use Rattle.acl.specs.declared.act.Object.{Object}
pub use Rattle.acl.specs.declared.act.Object.TheVariants.{Command, Window}
pub use Rattle.acl.specs.declared.bits.Bit.{Bit}
pub use Rattle.acl.specs.declared.bits.Bit.TheVariants.{Read}
pub use Rattle.acl.specs.declared.leaders.Edition.{Edition}
pub use Rattle.acl.specs.declared.user_id.UserId.{UserId}
pub use Rattle.hub.specs.Following.{StandsAfter}
pub use Rattle.std.proofs.Common.{Bool, Err, List, None, Ok, Option, Result, Some, [], add-one, ap, append-nil}
pub use Rattle.std.proofs.Common.{append_assoc, ap₂, arith, drop, false, get_or, inl, inr, length, map, not, refl}
pub use Rattle.std.proofs.Common.{rules, slice_index_or, subst, suc, sym, take, true, zero, ℕ, ◌&&◌, ◌++◌, ◌+◌, ◌<◌}
pub use Rattle.std.proofs.Common.{◌||◌, ◌∙◌, ◌∷◌, ◌≡◌, ◌≤◌}
pub use Rattle.std.proofs.lemmas.Bool.{and_parts, eqb-true, false≢true}
pub use Rattle.std.proofs.lemmas.List.{get_or_default}
pub use Rattle.std.proofs.lemmas.List.Edits.{map_over_more}
pub use Rattle.std.specs.List.{AllByRecursion, FoldsTo, flat_map, list_all, list_any}
pub use Rattle.std.specs.Prelude.{IfSome, cond, is_some, option_to_list, unwrap_or, ◌==◌}
pub use Rattle.trail_lines.specs.Entries.{Said, read_line, said}
pub use Rattle.trail_lines.specs.Halting.{AreRead}
pub use Rattle.trail_lines.specs.Lines.{OfKnown}
pub use Rattle.trail_lines.specs.Reading.{HasRead, IsWrong}
pub use Rattle.trail_rights.specs.Deciding.{DecidingIsLatest, HasDecided, IsDecided, decider_after, decides, deciding}
pub use Rattle.trail_rights.specs.Deciding.{found_in, sought_by, there_after}
pub use Rattle.trail_rights.specs.Keeping.{HasKept, asks, is_asked, tells, told}
pub use Rattle.trail_rights.specs.Marks.{Marked, acts_in, entries_in, mark_among, marked_after, marked_by, marked_on}
pub use Rattle.trail_rights.specs.Masking.{masks_of, masks_text, other_text, preset_text}
pub use Rattle.trail_rights.specs.Seeing.{HasSeen, sought}
pub use Rattle.trail_rights.specs.Settling.{HasSettled, first_settler, setting_by, settler_after, settler_in, settles}
pub use Rattle.trail_rights.specs.Settling.{settling, value_of}
pub use Rattle.trail_rights.specs.Watching.{Follows, HasWatched}
pub use Rattle.trail_rights.specs.Windows.{OpenAreListed, windows_after, windows_of, without_window}
pub use Rattle.trail_rights.specs.declared.acts.Mark.{Mark}
pub use Rattle.trail_rights.specs.declared.decider.Decider.{Decider}
pub use Rattle.trail_rights.specs.declared.settler.RightsSetting.{RightsSetting}
pub use Rattle.trail_rights.specs.declared.settler.Settler.{Settler}
pub use Rattle.writelock.specs.Holding.{clients_after, clients_of}
