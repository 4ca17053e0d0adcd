-- Worked rows of bob, who watches a window of own's, by the policy of a support call.
use Rattle.std.specs.Prelude.{◌≡◌, ℕ, true, false, List, [], ◌∷◌, Some, codes}
use Rattle.acl.specs.declared.leaders.Edition.TheVariants.{Second}
use Rattle.acl.specs.declared.bits.Bit.TheVariants.{Read, Write, Execute}
use Rattle.acl.specs.declared.bits.BitChange.{BitChange}
use Rattle.acl.specs.declared.act.Act.TheVariants as act
use Rattle.acl.specs.declared.act.Object.TheVariants as object
use Rattle.acl.specs.declared.command_name.CommandName.TheVariants as name
use Rattle.acl.specs.History.{followed_by}
use Rattle.command_lang.specs.declared.command.Command.TheVariants as command
use Rattle.command_lang.specs.declared.command.Mask.{Mask}
use Rattle.command_lang.specs.declared.command.Users.TheVariants.{Listed}
use Rattle.session_model.specs.Tables.{Tables, fresh}
use Rattle.session_model.specs.Rights.{may_in}
use Rattle.session_laws.specs.Watching.{IsSpectator}
use Rattle.session_laws.specs.WorkedSetup.{own, bob, window, after, changes, takes, gives}

-- own opened a window, and lets other users in
abbrev pub shop : Tables
shop = record (fresh Second own) {
  acts = followed_by [] (act.Opened own 0 ∷ []);
  is_multiuser = true;
  windows = window 0 (codes "shop") ∷ [];
  next_window = 1;
}

abbrev pub all_bits : List BitChange
all_bits =
    record { bit = Read; value = false } ∷ record { bit = Write; value = false }
    ∷ record { bit = Execute; value = false } ∷ []

abbrev pub mask : List ℕ → List BitChange → Mask
mask whom bits = record { users = Some (Listed (whom ∷ [])); bits = bits }

-- aclumask ?-rwx ??-x; aclchg bob +r shop; aclumask bob-rwx; after that, aclchg bob +x
-- detach,next,prev,scrollview
abbrev pub presets : Tables
presets =
    after shop (command.Aclumask (mask (codes "?") all_bits ∷ mask (codes "??") (takes Execute) ∷ []))

abbrev pub read : Tables
read = after presets (changes (codes "bob" ∷ []) (gives Read) (codes "shop" ∷ []))

abbrev pub masked : Tables
masked = after read (command.Aclumask (mask (codes "bob") all_bits ∷ []))

abbrev pub watched : Tables
watched =
    after masked (changes (codes "bob" ∷ []) (gives Execute)
    (codes "detach" ∷ codes "next" ∷ codes "prev" ∷ codes "scrollview" ∷ []))

-- ---- the rows

abbrev pub BobWatches : Type 0
BobWatches = IsSpectator watched bob

abbrev pub HeReads : Type 0
HeReads =
    (may_in watched bob Read (object.Window 0) ≡ true)
    × (may_in watched bob Execute (object.Command name.Next) ≡ true)
