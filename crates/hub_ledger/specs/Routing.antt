-- Effects that wait for the seats of their peers, with who typed them, and the marks that steps leave.
use Rattle.std.specs.Prelude.{ℕ, ◌+◌, ◌≤◌, ◌==◌, Bool, true, false, List, ◌++◌, ◌≡◌, Option, Some, None, IsSome, length}
use Rattle.std.specs.Prelude.{map, filter, slice_get, vec_len, vec_capacity, if◌then◌else◌}
use Rattle.std.specs.List.{AllByRecursion, fold}
use Rattle.std.specs.Option.{option_map_or}
use Rattle.std.specs.declared.vec.Vec.{Vec}
use Rattle.std.specs.declared.alloc.Global.{Global}
use Rattle.session.specs.event.Effect.{Effect}
use Rattle.session.specs.event.Effect.TheVariants.{Input}
use Rattle.acl.specs.declared.user_id.UserId.{UserId}
use Rattle.session.specs.Trace.{EventValue, Command, Draw, Keys, Output}
use Rattle.session.specs.Tables.{Tables}
use Rattle.session.specs.MayType.{client_user}
use Rattle.hub_peers.specs.Peers.{Owners, seat_of}

-- an effect, with the user who typed it
abbrev pub Sent : Type 0
Sent = Effect × Option UserId

-- the user who types, by the tables before the step: that of the client whose keys they are, or who gives the
-- command; what a program puts out is typed by nobody
abbrev pub typist_of : Tables → EventValue → Option UserId
typist_of t (Keys client bytes) = client_user t client
typist_of t (Command user number line) = Some user
typist_of t event = None

abbrev pub sent_by : Option UserId → List Effect → List Sent
sent_by typist effects = map (λ e. (e, typist)) effects

abbrev pub views : List (Vec Sent Global) → List (List Sent)
views waiting = map (λ v. v.items) waiting

-- each list has room for this many effects more
abbrev pub HaveRoom : ℕ → List (Vec Sent Global) → Type 0
HaveRoom n waiting =
    (k : ℕ) (v : Vec Sent Global) → slice_get waiting k ≡ Some v
    → vec_len v + n ≤ vec_capacity v

-- whether an effect is for a peer of the seat
abbrev pub is_for : Owners → ℕ → Effect → Bool
is_for o seat effect = option_map_or (λ s. s == seat) (seat_of o effect) false

-- the effects for a seat's peers, with who typed them, are put after those that wait for it, in order;
-- each effect is for a peer of some seat
pub record AreRouted
    (o : Owners) (typist : Option UserId) (effects : List Effect) (old new : List (List Sent))
    : Type 0 where
  pub found : AllByRecursion (λ e. IsSome (seat_of o e)) effects
  pub seats : length new ≡ length old
  pub waiting : (seat : ℕ) (before : List Sent) → slice_get old seat ≡ Some before
      → slice_get new seat ≡ Some (before ++ sent_by typist (filter (is_for o seat) effects))

abbrev pub is_draw : EventValue → Bool
is_draw (Draw client) = true
is_draw event = false

-- a step other than a Draw marks every seat
abbrev pub marked : EventValue → List Bool → List Bool
marked event marks = if is_draw event then marks else map (λ b. true) marks

-- the window of an Input, or else the one before
abbrev pub later : Option ℕ → Effect → Option ℕ
later last (Input window bytes) = Some window
later last effect = last

-- the window of the last Input; None if there is none
abbrev pub last_input : List Effect → Option ℕ
last_input effects = fold later None effects

-- the window into which a step typed last; what a program puts out types nothing, since the Inputs of
-- that step are reports
abbrev pub typed_in : EventValue → List Effect → Option ℕ
typed_in (Output window bytes) effects = None
typed_in event effects = last_input effects
