-- What a new session has that took the lines of a setup.
use Rattle.std.specs.Prelude.{◌≡◌, ◌&&◌, Bool, true, false, List, [], ℕ, None, map}
use Rattle.acl.specs.declared.act.Object.TheVariants.{Command}
use Rattle.acl.specs.declared.act.PresetKind.{PresetKind}
use Rattle.acl.specs.declared.bits.Bit.{Bit}
use Rattle.acl.specs.declared.command_name.CommandName.{CommandName}
use Rattle.acl.specs.declared.leaders.Edition.{Edition}
use Rattle.acl.specs.declared.user_id.UserId.{UserId}
use Rattle.acl.specs.History.{History, among, has, leaders_of, mask, may, preset_of, users_of}
use Rattle.acl.specs.Same.{same_user}
use Rattle.program_words.specs.SetupLines.{commands_in, first_fault, line_of}
use Rattle.session.specs.Setup.{SetsUp, StopsAt, command_of}
use Rattle.session.specs.declared.setup_file.Beginning.{Beginning}
use Rattle.session.specs.Headline.{with_steps}
use Rattle.session.specs.Run.{tables_of}
use Rattle.session.specs.Tables.{Tables, fresh}
use Rattle.session.specs.Trace.{Entry, begun}
use Rattle.trail_setup.specs.Giving.{PutsAll}
use Rattle.trail_setup.specs.Keeping.{IsAfter}
use Rattle.writelock.specs.Holding.{default_of}
use Rattle.trail_setup.specs.Masks.{has_on_all}
use Rattle.trail_setup.specs.Setup.{setup_parts}
use Rattle.trail_setup.specs.declared.state.SetupState.{SetupState}
use Rattle.trail_lines.specs.Entries.{Said}
use Rattle.trail_lines.specs.Halting.{AreRead}
use Rattle.trail_rights.specs.Marks.{acts_in, marked_after}
use Rattle.trail_rights.specs.Watching.{HasWatched}
use Rattle.trail_rights.specs.declared.watch.Watch.{Watch}
use Rattle.trail_again.specs.Taking.{AreTaken, session_after}

-- a known user, not the owner
abbrev pub IsOther : UserId → History → UserId → Type 0
IsOther owner h u = (among (users_of owner h) u ≡ true) × (same_user owner u ≡ false)

-- what a closed mask leaves: what the mask does, if the user has the bit on each window that comes back as the opener's
abbrev pub closed_mask : UserId → (acts from : History) → SetupState → UserId → UserId → Bit → Bool
closed_mask owner acts from s by u bit =
    mask from by u bit && has_on_all owner from (record { state = s; users = users_of owner acts }) by u bit

-- The same users are known as after all acts, in the same order, with the same leaders, in the same order. After those
-- that `from` has, each user but the owner has on each command what their entry had, and may do what they might;
-- masks are closed; presets and the mode of new locks are the same.
pub record IsRestored (edition : Edition) (owner : UserId) (acts from : History) (s : SetupState) (now : History)
    : Type 0 where
  pub users : users_of owner now ≡ users_of owner acts
  pub leaders : (u : UserId) → leaders_of edition now u ≡ leaders_of edition acts u
  pub commands : (u : UserId) (bit : Bit) (c : CommandName) → IsOther owner acts u
      → has owner now u bit (Command c) ≡ has owner from u bit (Command c)
  pub rights : (u : UserId) (bit : Bit) (c : CommandName) → IsOther owner acts u
      → leaders_of edition from u ≡ leaders_of edition acts u
      → may edition owner now u bit (Command c) ≡ may edition owner from u bit (Command c)
  pub masks : (by u : UserId) (bit : Bit) → among (users_of owner acts) by ≡ true → IsOther owner acts u
      → same_user u by ≡ false → mask now by u bit ≡ closed_mask owner acts from s by u bit
  pub presets : (kind : PresetKind) (bit : Bit) → preset_of now kind bit ≡ preset_of from kind bit
  pub default : default_of now ≡ default_of from

-- If the file is the setup of these acts and of a state after `from`, a new session of the same edition and owner takes
-- each of its lines, unless one is too long. Then nobody has joined, and it is multiuser.
abbrev pub Restores : Edition → UserId → (acts from : History) → SetupState → List ℕ → Type 0
Restores edition owner acts from s file =
    IsAfter s from
    → PutsAll (setup_parts edition owner acts from s) [] file → first_fault (commands_in file) ≡ None
    → (now : History)
    × AreTaken (fresh edition owner) (map (command_of owner) (commands_in file)) (session_after edition owner now)
    × IsRestored edition owner acts from s now

-- for the acts of all entries that a watch has read of a trail's file, each of which is legal
abbrev pub SetupRestores : Type 0
SetupRestores =
    (w : Watch) (edition : Edition) (owner : UserId) (said : List Said) (bytes rest : List ℕ) (from : History)
    (s : SetupState) (file : List ℕ) → HasWatched w edition owner said → AreRead said bytes rest
    → Restores edition owner (acts_in (marked_after [] said)) from s file

-- If tables take the lines of a beginning, the session that has taken them has the tables to which they lead, and no
-- line is refused.
abbrev pub BeginsAsTaken : Type 0
BeginsAsTaken =
    (b : Beginning) (new : Tables)
    → AreTaken (fresh b.edition b.owner) (map (command_of b.owner) (map line_of b.setup.now)) new
    → ((steps : List Entry) → SetsUp (begun b.edition b.owner) b.owner (map line_of b.setup.now) steps
    → tables_of (with_steps (begun b.edition b.owner) steps) ≡ new)
    × ((number : ℕ) (said : List ℕ)
    → StopsAt number said (begun b.edition b.owner) b.owner (map line_of b.setup.now) → ⊥)
