-- What this crate's proofs take from definitions and from other crates.
pub use Rattle.acl.proofs.InPlace.{drop-next, drop-past}
pub use Rattle.acl.specs.History.{History, followed_by, users_of}
pub use Rattle.acl.specs.Names.{named_by}
pub use Rattle.acl.specs.Same.{same_user}
pub use Rattle.acl.specs.declared.act.Act.{Act}
pub use Rattle.acl.specs.declared.leaders.Edition.{Edition}
pub use Rattle.acl.specs.declared.user_id.UserId.{UserId}
pub use Rattle.command_lang.specs.declared.command.Command.{Command}
pub use Rattle.hub_check.specs.Parts.{AreSaid, AreTrue, FitsLine, HaveActs, IsJudged, IsReading}
pub use Rattle.hub_trail.specs.Fitting.{detaches}
pub use Rattle.hub_trail.specs.Judging.{AreGood, IsBadAt}
pub use Rattle.hub_trail.specs.Legal.{AreLet, AreOfUser, IsOfKnown, acts_after, has_act_of, is_client_of, user_of}
pub use Rattle.hub_trail.specs.Trails.{Ending, Entry}
pub use Rattle.hub_trail.specs.declared.kept.Kept.{Kept}
pub use Rattle.rights.specs.Following.{StandsAfter}
pub use Rattle.session.specs.refusal.Verdict.{Verdict}
pub use Rattle.std.proofs.Common.{Bool, Err, List, Ok, Some, [], ap, arith, drop, filter, length, map, not, refl, subst}
pub use Rattle.std.proofs.Common.{suc, sym, true, zero, ℕ, ◌&&◌, ◌||◌, ◌∙◌, ◌∷◌, ◌≡◌}
pub use Rattle.std.proofs.lemmas.Bool.{false≢true}
pub use Rattle.std.proofs.lemmas.Result.{IfOk-weaker}
pub use Rattle.std.specs.List.{AllByRecursion, list_all}
pub use Rattle.std.specs.Prelude.{◌↔◌}
