-- The frame that several clients read.
use Rattle.std.specs.Prelude.{ℕ, ◌≡◌, ◌⊎◌, ◌==◌, ◌++◌, Bool, true, not, List, [], ◌∷◌}
use Rattle.std.specs.Prelude.{Option, Some, None, Ok, Err, filter, nat_eq}
use Rattle.std.specs.List.{AllByRecursion, list_any}
use Rattle.terminal_model.specs.Shows.{View}
use Rattle.redraw.specs.Frames.{Made}
use Rattle.session_model.specs.Trace.{EventValue, Keys, Command, Output, Draw, Reply}
use Rattle.session_model.specs.Tables.{Tables}
use Rattle.session_view.specs.declared.following.Lead.{Lead}
use Rattle.session_view.specs.Following.{IsLed, Knows}
use Rattle.session_core.specs.declared.sharing.Sharing.{Sharing}

-- this was drawn last for each of these clients that is there
abbrev pub AllKnow : Tables → Option View → List ℕ → Type 0
AllKnow t known clients = AllByRecursion (Knows t known) clients

-- a frame leads from what is known to what its client is granted to see, and its followers were
-- drawn that
pub record IsLead (t : Tables) (known : Option View) (followers : List ℕ) (l : Lead) : Type 0 where
  pub led : IsLed t l
  pub before : l.frame.before.known ≡ known
  pub follow : AllKnow t (Some l.frame.view) followers

abbrev pub IsLeadIfAny : Tables → Option View → List ℕ → Option Lead → Type 0
IsLeadIfAny t known followers None = Unit {0}
IsLeadIfAny t known followers (Some l) = IsLead t known followers l

-- some clients were drawn the same last, and the frame, if there is one, leads from that
pub record IsShared (t : Tables) (s : Sharing) : Type 0 where
  pub known : Option View
  pub alike : AllKnow t known s.alike.items
  pub lead : IsLeadIfAny t known s.followers.items s.lead

-- ---- changes

-- serials but for one
abbrev pub without : ℕ → List ℕ → List ℕ
without client clients = filter (λ n. not (n == client)) clients

abbrev pub is_one_of : ℕ → List ℕ → Bool
is_one_of client clients = list_any (nat_eq client) clients

-- the client isn't among the known ones any more
pub record Forgets (client : ℕ) (old new : Sharing) : Type 0 where
  pub lead : new.lead ≡ old.lead
  pub alike : new.alike.items ≡ without client old.alike.items
  pub followers : new.followers.items ≡ without client old.followers.items

-- a client follows the frame, if there is room for it
pub record Joins (client : ℕ) (old new : Sharing) : Type 0 where
  pub lead : new.lead ≡ old.lead
  pub alike : new.alike.items ≡ without client old.alike.items
  pub followers :
      (new.followers.items ≡ without client old.followers.items ++ client ∷ [])
      ⊎ (new.followers.items ≡ without client old.followers.items)

-- a client's frame is the one from now on; the clients that were drawn what it leads from stay, if the
-- client is one of them
pub record Begins (l : Lead) (old new : Sharing) : Type 0 where
  pub lead : new.lead ≡ Some l
  pub alike :
      (is_one_of l.client old.alike.items ≡ true)
      × (new.alike.items ≡ without l.client old.alike.items)
      ⊎ (new.alike.items ≡ [])
  pub followers : (new.followers.items ≡ l.client ∷ []) ⊎ (new.followers.items ≡ [])

-- a client was drawn by a frame of its own
abbrev pub SharesOrForgets : ℕ → Made → Sharing → Sharing → Type 0
SharesOrForgets client f old new =
    Begins (record { client = client; frame = f }) old new ⊎ Forgets client old new

-- if what is to be shown may have changed, the followers are now the clients that were drawn one thing
-- last, or those from before the frame still are
abbrev pub PassesOn : Option Lead → Sharing → Sharing → Type 0
PassesOn None old new = new ≡ old
PassesOn (Some l) old new =
    (new.lead ≡ None)
    × ((new.alike.items ≡ old.followers.items) ⊎ (new.alike.items ≡ old.alike.items))

-- what is left after a step: all, if the step was refused or a Draw, which has changed it itself; no
-- frame, after keys, a command or output; and nothing, after any other event
abbrev pub AreLeft : Reply → EventValue → Sharing → Sharing → Type 0
AreLeft (Err r) event old new = new ≡ old
AreLeft (Ok done) (Draw client) old new = new ≡ old
AreLeft (Ok done) (Keys client bytes) old new = PassesOn old.lead old new
AreLeft (Ok done) (Command user number bytes) old new = PassesOn old.lead old new
AreLeft (Ok done) (Output window bytes) old new = PassesOn old.lead old new
AreLeft (Ok done) event old new = (new.lead ≡ None) × (new.alike.items ≡ [])
