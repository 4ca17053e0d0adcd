-- Histories that answer alike.
use Rattle.std.specs.Prelude.{◌≡◌, ℕ, List, map, false}
use Rattle.acl.specs.declared.act.Act.{Act}
use Rattle.acl.specs.declared.act.Object.{Object}
use Rattle.acl.specs.declared.act.PresetKind.{PresetKind}
use Rattle.acl.specs.declared.bits.Bit.{Bit}
use Rattle.acl.specs.declared.leaders.Edition.{Edition}
use Rattle.acl.specs.declared.user_id.UserId.{UserId}
use Rattle.acl.specs.History.{History, followed_by, is_known, is_open, has, leaders_of, mask, preset_of, users_of}
use Rattle.acl.specs.Same.{same_user}
use Rattle.writelock.specs.Holding.{clients_of, default_of, holder, mode_of}
use Rattle.session_alike.specs.Renaming.{Renaming, act_as, object_as}

abbrev pub client_as : Renaming → ℕ × UserId → ℕ × UserId
client_as n c = (n.client c.0, c.1)

-- After both histories the same users are known, in the same order, with the same leaders, in the
-- same order, and the same entries, masks and presets. The same windows are open, with the same
-- lock modes and holders, and the same clients are attached. A user's mask of themselves is left
-- out, since it never counts.
pub record HistoriesAlike (n : Renaming) (edition : Edition) (owner : UserId) (h g : History)
    : Type 0 where
  pub users : users_of owner g ≡ users_of owner h
  pub known : (u : UserId) → is_known owner g u ≡ is_known owner h u
  pub leaders : (u : UserId) → leaders_of edition g u ≡ leaders_of edition h u
  pub entries : (u : UserId) (bit : Bit) (o : Object)
      → has owner g u bit (object_as n o) ≡ has owner h u bit o
  pub masks : (by u : UserId) (bit : Bit) → same_user by u ≡ false
      → mask g by u bit ≡ mask h by u bit
  pub presets : (kind : PresetKind) (bit : Bit) → preset_of g kind bit ≡ preset_of h kind bit
  pub opened : (w : ℕ) → is_open g (n.window w) ≡ is_open h w
  pub default : default_of g ≡ default_of h
  pub modes : (w : ℕ) → mode_of g (n.window w) ≡ mode_of h w
  pub holders : (w : ℕ) → holder edition owner g (n.window w) ≡ holder edition owner h w
  pub clients : clients_of g ≡ map (client_as n) (clients_of h)

-- histories that answer alike do so after the same acts
abbrev pub ActsKeepAlike : Type 0
ActsKeepAlike =
    (n : Renaming) (edition : Edition) (owner : UserId) (h g : History) (acts : List Act)
    → HistoriesAlike n edition owner h g
    → HistoriesAlike n edition owner (followed_by h acts) (followed_by g (map (act_as n) acts))
