-- Why a setup that was read isn't taken.
use Rattle.std.proofs.Common.{◌≡◌, ◌⊎◌, inl, inr, ℕ, List, Some, Ok, Err, Result, subst}
use Rattle.std.specs.Prelude.{IfErr}
use Rattle.std.specs.Result.{result_err}
use Rattle.std.specs.String.{string_bytes}
use Rattle.std.specs.declared.alloc.Global.{Global}
use Rattle.std.specs.declared.io.Error.{Error}
use Rattle.std.specs.declared.vec.Vec.{Vec}
use Rattle.program_words.specs.SetupLines.{commands_in, first_fault}
use Rattle.program_words.specs.declared.setup.SetupFault.{SetupFault}
use Rattle.program_words.specs.declared.setup.SetupFault.TheVariants.{NoMemory, NotText, TooLong}
use Rattle.server_outcome.specs.Faults.{IsOfSetup}
use Rattle.server_outcome.specs.declared.fault.ServeFault.{ServeFault}
use Rattle.server_outcome.specs.declared.fault.ServeFault.TheVariants as fault
use Rattle.server_outcome.specs.declared.fault.SetupCause.TheVariants as cause
use Rattle.server_session.specs.declared.loop_body.LoopsFault.TheVariants as loops
use Rattle.server.specs.Starting.{IsStartFault, IsUnread}

-- what holds of an error, if there is one, holds of the error that there is
pub error_is : {A E : Type 0} (P : E → Type 0) (r : Result A E) (e : E) → IfErr r P → result_err r ≡ Some e → P e
error_is P (Ok x) e p q = absurd (cc (q))
error_is P (Err d) e p q =
    let same : d ≡ e = cc (q) in
    subst P same p

module _ (reads : List ℕ → Result (Vec ℕ Global) Error → Type 0) (path : List ℕ) (setup : Vec ℕ Global)
    (read : reads path (Ok setup)) where
  named : (why : SetupFault) (told : ServeFault) → first_fault (commands_in setup.items) ≡ Some why
      → IsOfSetup path (cause.Wrong why) told → IsUnread reads (Some path) told
  named why fault.NoMemory is of = tt
  named why (fault.Setup at it) is (at_is, it_is) = rw it_is (at_is, setup, read, is)
  named why (fault.Users it) is of = absurd of
  named why (fault.Socket it) is of = absurd of
  named why (fault.Untold it) is of = absurd of
  named why (fault.Other it) is of = absurd of
  named why fault.NoThread is of = absurd of
  named why fault.TrailFull is of = absurd of
  named why fault.Loop is of = absurd of
  named why fault.Trail is of = absurd of
  named why (fault.Journal at it) is of = absurd of

  pub unread_for : (why : SetupFault) (told : ServeFault)
      → (why ≡ NoMemory) ⊎ (first_fault (commands_in setup.items) ≡ Some why) → IsStartFault path (loops.Setup why) told
      → IsUnread reads (Some path) told
  unread_for NoMemory told is of = rw of tt
  unread_for (TooLong number) told (inl e) of = absurd (cc (e))
  unread_for (TooLong number) told (inr e) of = named (TooLong number) told e of
  unread_for (NotText number) told (inl e) of = absurd (cc (e))
  unread_for (NotText number) told (inr e) of = named (NotText number) told e of
