-- After an act that changes locks alone, the state stands for the tables with that act.
use Rattle.session_commands.proofs.Vocabulary.{◌≡◌, ◌∷◌, true, false, refl, Act, IsAside, Locks, LocksStandFor, Tables}
use Rattle.session_commands.proofs.Vocabulary.{State, Stands}
use Rattle.acl.specs.declared.act.LockMode.{LockMode}
use Rattle.acl.specs.declared.act.LockMode.TheVariants.{Off, Auto, On}
use Rattle.acl.proofs.AsideLemmas.{StandsFor-aside}
use Rattle.writelock.specs.Holding.{is_off}
use Rattle.command_lang.specs.Needs.{of_lock}

-- the locks of a state are others, by an act that leaves the lists
pub with_locks : (t : Tables) (s : State) (a : Act) (locks : Locks) → IsAside a → Stands t s
    → LocksStandFor locks t.edition t.owner (a ∷ t.acts)
    → Stands (record t { acts = a ∷ t.acts }) (record s { locks = locks })
with_locks t s a locks aside st on = record {
  acl = StandsFor-aside s.acl t.edition t.owner t.acts a aside st.acl;
  locks = on;
  multiuser_is = st.multiuser_is;
  windows = st.windows;
  clients = st.clients;
  next_window_is = st.next_window_is;
  next_client_is = st.next_client_is;
}

-- `writelock` needs a window in each mode, and w on it in each but off
pub lock_needs_window : (mode : LockMode) → (of_lock mode).window ≡ true
lock_needs_window Off = refl
lock_needs_window Auto = refl
lock_needs_window On = refl

pub lock_needs_write : (mode : LockMode) → is_off mode ≡ false → (of_lock mode).write ≡ true
lock_needs_write Off is = absurd (cc (is))
lock_needs_write Auto is = refl
lock_needs_write On is = refl
