-- What this crate's proofs take from definitions and from other crates.
pub use Rattle.acl.specs.History.{followed_by}
pub use Rattle.acl.specs.declared.act.Act.{Act}
pub use Rattle.acl.specs.declared.bits.Bit.TheVariants.{Write}
pub use Rattle.acl.specs.declared.user_id.UserId.{UserId}
pub use Rattle.keys.specs.Grammar.{items}
pub use Rattle.redraw.specs.Frames.{Made}
pub use Rattle.session_core.specs.Drawn.{AreDrawn, AreNoted, draws_one_of}
pub use Rattle.session_core.specs.Headline.{AllSteps, AreSteps, Call, Keeps, SomeRun, SomeSteps, read_by, untaken_keys}
pub use Rattle.session_core.specs.Headline.{with_steps}
pub use Rattle.session_core.specs.Least.{least_from}
pub use Rattle.session_core.specs.Sharing.{AllKnow, AreLeft, IsLead, IsLeadIfAny, IsShared, Joins, SharesOrForgets}
pub use Rattle.session_core.specs.Sharing.{is_one_of, without}
pub use Rattle.session_core.specs.Stands.{StandsFor, Takes}
pub use Rattle.session_core.specs.Taking.{DrawsSharing, StayShared, TakenAs, wants_memory}
pub use Rattle.session_core.specs.declared.session.Session.{Session}
pub use Rattle.session_core.specs.declared.sharing.Sharing.{Sharing}
pub use Rattle.session_input.proofs.Outcomes.{for_there, was_done, was_passed}
pub use Rattle.session_input.specs.Stepping.{HasHappened, Stepped}
pub use Rattle.session_laws.proofs.Leaving.{none_left}
pub use Rattle.session_laws.proofs.Lists.{all_append, all_weaken}
pub use Rattle.session_laws.proofs.Refusing.{refusals}
pub use Rattle.session_model.specs.Answering.{keys_outcome}
pub use Rattle.session_model.specs.Checks.{passes}
pub use Rattle.session_model.specs.Comings.{outputs}
pub use Rattle.session_model.specs.Deeds.{Deed, changing}
pub use Rattle.session_model.specs.Events.{outcome}
pub use Rattle.session_model.specs.Granted.{granted_view}
pub use Rattle.session_model.specs.Keying.{taken}
pub use Rattle.session_model.specs.Outcomes.{Outcome, done, finished, left_acts, refused, reply_of}
pub use Rattle.session_model.specs.Run.{HasEffects, IsDraw, IsRun, IsRunFrom, IsStep, after, deliveries, drawn}
pub use Rattle.session_model.specs.Run.{drawn_on, tables_of}
pub use Rattle.session_model.specs.Sound.{AreFit, Rises, client_serials}
pub use Rattle.session_model.specs.Tables.{Client, Tables, Window, client_at, fresh, row_of, window_at, with_client}
pub use Rattle.session_model.specs.Trace.{Command, Draw, Entry, EventValue, Keys, Output, Reply, Trace, begun}
pub use Rattle.session_model.specs.Trace.{happening, with_step}
pub use Rattle.session_model.specs.declared.event.Effect.{Effect}
pub use Rattle.session_model.specs.declared.refusal.Check.{Check}
pub use Rattle.session_model.specs.declared.refusal.Check.TheVariants.{Right, Unlocked}
pub use Rattle.session_model.specs.declared.refusal.Refusal.{Refusal}
pub use Rattle.session_model.specs.declared.refusal.Refusal.TheVariants.{NoMemory, NoWindow}
pub use Rattle.session_state.specs.Clients.{ClientStands}
pub use Rattle.session_state.specs.Doing.{IsAsBefore}
pub use Rattle.session_state.specs.Noted.{Noted}
pub use Rattle.session_state.specs.Stands.{Stands}
pub use Rattle.session_state.specs.declared.state.State.{State}
pub use Rattle.session_state.specs.declared.state.Step.{Step}
pub use Rattle.session_state.specs.declared.state.StepOutput.{StepOutput}
pub use Rattle.session_view.specs.Drawn.{DrawsBy}
pub use Rattle.session_view.specs.Following.{Knows}
pub use Rattle.session_view.specs.declared.following.Lead.{Lead}
pub use Rattle.std.proofs.Common.{Bool, Err, List, None, Ok, Option, Some, [], ap, append-nil, arith, drop, false}
pub use Rattle.std.proofs.Common.{get_or, inl, inr, length, map, not, refl, rules, subst, suc, sym, take, true, zero, ℕ}
pub use Rattle.std.proofs.Common.{◌++◌, ◌+◌, ◌-◌, ◌<◌, ◌∙◌, ◌∷◌, ◌≡◌, ◌≢◌, ◌≤◌, ◌⊎◌}
pub use Rattle.std.proofs.lemmas.Bool.Decides.{nat_tests}
pub use Rattle.std.proofs.lemmas.Result.{err_from_is_err_and}
pub use Rattle.std.specs.List.{list_any}
pub use Rattle.std.specs.Option.{option_copied}
pub use Rattle.std.specs.Prelude.{MatchOption, if◌then◌else◌, is_ok, ◌&&◌, ◌==◌, ◌||◌}
pub use Rattle.terminal_model.specs.Shows.{View}
pub use Rattle.windows.specs.Standing.{WindowStands}
pub use Rattle.windows_model.proofs.Matching.{both_back}
pub use Rattle.windows_model.proofs.Serials.{if_false, if_true, is_equal, same_number, serial_is, with_other, with_same}
