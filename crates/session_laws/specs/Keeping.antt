-- Who keeps the write lock of a window.
use Rattle.std.specs.Prelude.{◌≡◌, ◌⊎◌, ℕ, true, false, List, [], ◌∷◌, Some, None}
use Rattle.acl.specs.declared.leaders.Edition.{Edition}
use Rattle.acl.specs.declared.user_id.UserId.{UserId}
use Rattle.acl.specs.declared.act.Act.{Act}
use Rattle.acl.specs.declared.act.Object.TheVariants as object
use Rattle.acl.specs.declared.bits.Bit.TheVariants.{Write}
use Rattle.acl.specs.History.{History, may}
use Rattle.acl.specs.Same.{same_user}
use Rattle.writelock.specs.LockTable.{frees}
use Rattle.command_lang.specs.declared.command.Command.{Command as Order}
use Rattle.command_lang.specs.declared.command.Command.TheVariants as command
use Rattle.session_model.specs.Trace.{Closed, Entry, Trace, with_step}
use Rattle.session_model.specs.Tables.{Tables}
use Rattle.session_model.specs.Rights.{holder_in}
use Rattle.session_model.specs.Given.{Given, commands_of, has_x}
use Rattle.session_model.specs.Promises.{SomeOf, IsOn}
use Rattle.session_model.specs.Sound.{AreFit}
use Rattle.session_model.specs.Run.{IsStep, IsRun, after, tables_of}
use Rattle.session_laws.specs.Contained.{stood}
use Rattle.session_laws.specs.Locking.{user_of, HoldersMayWrite}

-- The user loses the window by one of these acts, which follow h: the act takes w there from the
-- user, or removes the user, or after it the user may not write there.
abbrev pub LosesWindow : Edition → UserId → History → List Act → UserId → ℕ → Type 0
LosesWindow edition owner h [] user window = ⊥
LosesWindow edition owner h (a ∷ acts) user window =
    (frees a user window ≡ true)
    ⊎ (may edition owner (a ∷ h) user Write (object.Window window) ≡ false)
    ⊎ LosesWindow edition owner (a ∷ h) acts user window

abbrev pub LosesIn : Tables → Entry → UserId → ℕ → Type 0
LosesIn t e user window = LosesWindow t.edition t.owner t.acts e.acts user window

-- which commands free the holder's lock on the window
abbrev pub FreesBy : Tables → Entry → ℕ → UserId → Given → Order → Type 0
FreesBy t e window holder g command.Kill = IsOn g.caller.window window
FreesBy t e window holder g command.Quit = Unit {0}
FreesBy t e window holder g (command.Multiuser false) = same_user t.owner holder ≡ false
FreesBy t e window holder g (command.Acladd names) = LosesIn t e holder window
FreesBy t e window holder g (command.Aclchg names bits list) = LosesIn t e holder window
FreesBy t e window holder g (command.Acldel word) = LosesIn t e holder window
FreesBy t e window holder g (command.Aclgrp word leader) = LosesIn t e holder window
FreesBy t e window holder g order = ⊥

-- such a command is granted: x on it, and on its window if it acts on one
pub record Frees (t : Tables) (e : Entry) (window : ℕ) (holder : UserId) (g : Given) : Type 0 where
  pub granted : has_x t g ≡ true
  pub frees : FreesBy t e window holder g g.order

-- the window's program ended, or such a command was granted
abbrev pub IsFreed : Tables → Entry → ℕ → UserId → Type 0
IsFreed t e window holder =
    (e.event ≡ Closed window) ⊎ SomeOf (Frees t e window holder) (commands_of t e.event)

-- After a step that isn't the holder's own, the holder of a window's lock still has it, or nobody
-- has, because it was freed.
abbrev pub LocksStayIn : Tables → Entry → Type 0
LocksStayIn t e =
    (window : ℕ) (holder : UserId) → stood t (object.Window window) ≡ true →
    holder_in t window ≡ Some holder → (user_of t e.event ≡ Some holder → ⊥) →
    (holder_in (after t e) window ≡ Some holder)
    ⊎ ((holder_in (after t e) window ≡ None) × IsFreed t e window holder)

abbrev pub LocksStay : Type 0
LocksStay =
    (t : Tables) (e : Entry) → AreFit t → HoldersMayWrite t → IsStep t e → LocksStayIn t e

-- this holds in each step of every run
abbrev pub LocksStayInRuns : Type 0
LocksStayInRuns = (h : Trace) (e : Entry) → IsRun (with_step h e) → LocksStayIn (tables_of h) e
