-- What this crate's proofs take from definitions and from other crates.
pub use Rattle.acl.proofs.FollowingLemmas.{followed_by-append}
pub use Rattle.acl.specs.History.{History, followed_by, is_open}
pub use Rattle.acl.specs.declared.act.Act.{Act}
pub use Rattle.acl.specs.declared.act.Act.TheVariants.{Left}
pub use Rattle.acl.specs.declared.leaders.Edition.{Edition}
pub use Rattle.acl.specs.declared.user_id.UserId.{UserId}
pub use Rattle.session_events.specs.Events.{IsOpenIn}
pub use Rattle.session_events.specs.Leaving.{all_left, focus_now, focuses_of, leaving, left_window}
pub use Rattle.session_events.specs.declared.focuses.Focus.{Focus}
pub use Rattle.session_model.specs.Faults.{refusal_of}
pub use Rattle.session_model.specs.Naming.{free_number, lowest}
pub use Rattle.session_model.specs.Outcomes.{left_acts}
pub use Rattle.session_model.specs.Sound.{AreFit, Rises, window_serials}
pub use Rattle.session_model.specs.Tables.{Tables, Window, with_row}
pub use Rattle.session_model.specs.Terminals.{terminal_of}
pub use Rattle.session_model.specs.declared.event.Effect.{Effect}
pub use Rattle.session_model.specs.declared.event.Effect.TheVariants.{Input}
pub use Rattle.session_model.specs.declared.refusal.Refusal.TheVariants.{NoMemory}
pub use Rattle.session_model.specs.rows.WindowsFault.{WindowsFault}
pub use Rattle.session_state.specs.Clients.{AreClients}
pub use Rattle.session_state.specs.Doing.{HasDone}
pub use Rattle.session_state.specs.Stands.{Stands}
pub use Rattle.session_state.specs.declared.state.State.{State}
pub use Rattle.session_state.specs.declared.state.StepOutput.{StepOutput}
pub use Rattle.std.proofs.Common.{Bool, Err, List, None, Ok, Option, Some, [], ap, append-nil, append_assoc, arith}
pub use Rattle.std.proofs.Common.{drop, false, inl, inr, is_some, length, refl, subst, sym, take, true, ℕ, ◌++◌, ◌+◌}
pub use Rattle.std.proofs.Common.{◌<◌, ◌∙◌, ◌∷◌, ◌≡◌, ◌≤◌, ◌⊎◌}
pub use Rattle.std.specs.Option.{option_map}
pub use Rattle.std.specs.Prelude.{Result, if◌then◌else◌, is_ok, map, nat_lt, unwrap_or, ◌&&◌, ◌==◌, ◌^◌}
pub use Rattle.terminal_model.specs.Reading.{reads}
pub use Rattle.windows.specs.Standing.{AnsweredIfRoom, StandFor}
pub use Rattle.windows_model.proofs.Serials.{if_false, if_true}
pub use Rattle.writelock.specs.LockTable.{LocksStandFor}
pub use Rattle.writelock.specs.declared.locks.Locks.{Locks}
