-- What this crate's proofs take from definitions and from other crates.
pub use Rattle.acl.specs.command_name.TheConstants.CommandName.{ALL}
pub use Rattle.acl.specs.History.{History, among, is_known, mask, may, there, users_of}
pub use Rattle.acl.specs.declared.leaders.Edition.{Edition}
pub use Rattle.acl.specs.declared.user_id.UserId.{UserId}
pub use Rattle.hub.specs.Following.{StandsAfter}
pub use Rattle.std.proofs.Common.{Bool, List, None, Option, Some, [], ap, append-nil, append_assoc, drop, false, not}
pub use Rattle.std.proofs.Common.{refl, slice_index_or, subst, sym, take, true, ◌&&◌, ◌++◌, ◌||◌, ◌∙◌, ◌∷◌, ◌≡◌}
pub use Rattle.std.proofs.lemmas.List.{take_more}
pub use Rattle.std.specs.List.{AllByRecursion, flat_map, list_all, list_any}
pub use Rattle.std.specs.Prelude.{IfOk, IfSome, OnOk, codes, cond, filter, is_some, ◌↔◌}
pub use Rattle.trail_confined.specs.Confining.{circle, circles_of, concerns, holds, is_asked, masks_by, masks_of}
pub use Rattle.trail_confined.specs.Confining.{may_open, openers_of, powers_of, premises_of, standing_of}
pub use Rattle.trail_confined.specs.Reasons.{decider_text, is_listed, is_there}
pub use Rattle.trail_confined.specs.Standing.{bits_on, command_text, commands_text, leader_text, user_text}
pub use Rattle.trail_confined.specs.Standing.{window_text}
pub use Rattle.trail_confined.specs.Telling.{act_giver_text, any_gives, bits_text, causes_text, concerned_text}
pub use Rattle.trail_confined.specs.Telling.{contrary_text, deciders_of_one, failing_text, givers_text}
pub use Rattle.trail_rights.proofs.Stepping.{from_none, joins_next, take_past}
pub use Rattle.trail_rights.specs.Marks.{Marked, acts_in}
pub use Rattle.trail_rights.specs.Settling.{HasSettled}
