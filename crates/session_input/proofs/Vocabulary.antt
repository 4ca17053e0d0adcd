-- What this crate's proofs take from definitions and from other crates.
pub use Rattle.acl.specs.History.{followed_by}
pub use Rattle.acl.specs.declared.act.Act.{Act}
pub use Rattle.acl.specs.declared.user_id.UserId.{UserId}
pub use Rattle.command_lang.proofs.OneReading.{refuses-reads, relates-reads}
pub use Rattle.command_lang.specs.LineFaults.{no_memory}
pub use Rattle.command_lang.specs.Relation.{Refuses, Relates, read_line}
pub use Rattle.command_lang.specs.declared.command.Command.{Command}
pub use Rattle.command_lang.specs.declared.fault.ParseFault.{ParseFault}
pub use Rattle.keys.specs.Kept.{Keeping, StandsFor}
pub use Rattle.regions.specs.Layouts.{Arrangement}
pub use Rattle.regions.specs.declared.layout.Shown.{Shown}
pub use Rattle.session_checks.specs.Checked.{Failed, Passed}
pub use Rattle.session_events.specs.Leaving.{HasLeft}
pub use Rattle.session_input.specs.KeyStepping.{read_by}
pub use Rattle.session_input.specs.Lines.{Parses}
pub use Rattle.session_input.specs.Obeying.{Obeyed}
pub use Rattle.session_input.specs.Reads.{ReadFor, Ruled, read_of}
pub use Rattle.session_input.specs.Said.{Says, wants_memory}
pub use Rattle.session_input.specs.Stepping.{HasHappened}
pub use Rattle.session_input.specs.Typing.{Typed, caller_by, input_to}
pub use Rattle.session_model.specs.Answering.{input_in, reading, says, says_why}
pub use Rattle.session_model.specs.Checks.{first_fault, typing_checks}
pub use Rattle.session_model.specs.Commands.{Ruling, ruling}
pub use Rattle.session_model.specs.Deeds.{Deed, changing, hearing}
pub use Rattle.session_model.specs.Naming.{with_number}
pub use Rattle.session_model.specs.Outcomes.{Outcome, left_acts, refused, reply_of}
pub use Rattle.session_model.specs.Sound.{AreFit, Rises}
pub use Rattle.session_model.specs.Tables.{Client, Tables, Window, client_at, focused_window, row_of, window_at}
pub use Rattle.session_model.specs.Tables.{with_client, with_row}
pub use Rattle.session_model.specs.Texts.{text_of}
pub use Rattle.session_model.specs.Trace.{Reply}
pub use Rattle.session_model.specs.declared.event.Effect.{Effect}
pub use Rattle.session_model.specs.declared.event.Effect.TheVariants.{Say}
pub use Rattle.session_model.specs.declared.event.StatusMessage.{StatusMessage}
pub use Rattle.session_model.specs.declared.event.StatusMessage.TheVariants.{Silence, Text}
pub use Rattle.session_model.specs.declared.refusal.Refusal.{Refusal}
pub use Rattle.session_model.specs.declared.refusal.Refusal.TheVariants.{Line, NoMemory, NoWindow}
pub use Rattle.session_model.specs.declared.refusal.Verdict.{Verdict}
pub use Rattle.session_state.proofs.Changing.{serials}
pub use Rattle.session_state.specs.Clients.{AreClients, ClientStands}
pub use Rattle.session_state.specs.Doing.{Does, HasDone, IsAsBefore, caller_in, did}
pub use Rattle.session_state.specs.Stands.{Stands}
pub use Rattle.session_state.specs.declared.state.Caller.{Caller}
pub use Rattle.session_state.specs.declared.state.State.{State}
pub use Rattle.session_state.specs.declared.state.Step.{Step}
pub use Rattle.session_state.specs.declared.state.StepOutput.{StepOutput}
pub use Rattle.std.proofs.Common.{Bool, Err, List, None, Ok, Option, Result, Some, [], ap, append-nil, append_assoc}
pub use Rattle.std.proofs.Common.{arith, false, inl, inr, length, refl, subst, suc, sym, true, ℕ, ◌++◌, ◌+◌, ◌<◌, ◌∙◌}
pub use Rattle.std.proofs.Common.{◌∷◌, ◌≡◌, ◌≤◌}
pub use Rattle.std.proofs.lemmas.Result.{err_from_is_err_and}
pub use Rattle.std.specs.List.{AllByRecursion}
pub use Rattle.std.specs.Option.{is_some, option_and_then}
pub use Rattle.std.specs.Prelude.{IfOk, OnOk, if◌then◌else◌, ◌==◌, ◌⊎◌}
pub use Rattle.windows_model.proofs.Matching.{both_back}
pub use Rattle.windows_model.proofs.Serials.{if_true, on_ok, serial_is, with_same}
