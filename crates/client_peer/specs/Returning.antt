-- When a peer comes back by itself after its connection has ended.
use Rattle.std.specs.Prelude.{◌≡◌, ◌↔◌, ◌⊎◌, ℕ, ◌<◌, ◌≤◌, ◌-◌, ◌*◌, ◌==◌, Bool, true, false, not, ◌&&◌, codes, List, []}
use Rattle.std.specs.Prelude.{◌∷◌, ◌++◌, Result, Ok, Err, Option, Some, None, IfSome, IsSome, option_map, string_bytes}
use Rattle.attach_proto.specs.declared.why.Why.{Why}
use Rattle.attach_proto.specs.declared.why.Why.TheVariants as why
use Rattle.std.specs.List.{starts_with}
use Rattle.client_notice.specs.declared.notice.NoticeStage.TheVariants.{Nothing}
use Rattle.client_notice.specs.Notices.{PutsLine, noted}
use Rattle.client_words.specs.declared.arguments.Subcommand.{Subcommand}
use Rattle.client_words.specs.declared.arguments.Subcommand.TheVariants.{Attach}
use Rattle.client_words.specs.declared.fault.PeerFault.{PeerFault}
use Rattle.client_words.specs.declared.fault.PeerFault.TheVariants as fault
use Rattle.client_peer.specs.declared.peer.Peer.{Peer}
use Rattle.client_peer.specs.Sending.{IsMore}

-- An end after which a server may come back: the connection ended without a word or couldn't be made, the trail is
-- full, the session quit as planned, or the peer was refused and may be let in later.
abbrev pub may_return : Result Why PeerFault → Bool → Bool → Bool
may_return (Ok why.Quit) is_planned is_refused = is_planned
may_return (Ok why) is_planned is_refused = false
may_return (Err fault.Ended) is_planned is_refused = true
may_return (Err fault.NoServer) is_planned is_refused = true
may_return (Err fault.NoToken) is_planned is_refused = true
may_return (Err (fault.Refused part error)) is_planned is_refused = true
may_return (Err (fault.Gone why.TrailFull)) is_planned is_refused = true
may_return (Err (fault.Gone why.Fault)) is_planned is_refused = is_refused
may_return (Err fault) is_planned is_refused = false

-- the text begins so: the session doesn't know the user
abbrev pub is_unknown : Option (List ℕ) → Bool
is_unknown None = false
is_unknown (Some said) = starts_with ◌==◌ said (codes "unknown user")

abbrev pub is_client : Subcommand → Bool
is_client Attach = true
is_client other = false

-- refused, and perhaps not for good
abbrev pub is_refused : Peer → Bool
is_refused p = not p.is_welcome && not (is_client p.subcommand && is_unknown (option_map string_bytes p.said))

-- It was let in at some time, tries to come back, and nothing has ended that.
pub record Tries (p : Peer) (is_planned has_place : Bool) : Type 0 where
  pub lasts : p.is_final ≡ false
  pub again : 0 < p.times.again
  pub was : p.was_welcome ≡ true
  pub may : IfSome p.end (λ end. may_return end is_planned (is_refused p) ≡ true)
  pub place : has_place ≡ true

-- nothing is put down for the terminal
abbrev pub IsUntold : Peer → Peer → Type 0
IsUntold old new = (new.bytes.items ≡ old.bytes.items) × (new.notice ≡ old.notice)

abbrev pub loss_text : List ℕ
loss_text = noted (codes "the server is gone; waiting for it to come back (C-c leaves)")

-- On a client's terminal CAN ends what may have been cut, and the last line says that the server is gone.
pub record TellsLoss (old new : Peer) : Type 0 where
  pub client : old.subcommand ≡ Attach → (new.notice.stage ≡ Nothing)
      × PutsLine loss_text old.rows old.columns (old.bytes.items ++ 0x18 ∷ []) new.bytes.items
  pub other : (old.subcommand ≡ Attach → ⊥) → IsUntold old new

-- The peer comes back exactly if it tries. The first loss counts: its cause and its time stay until a server lets the
-- peer in. Otherwise it has ended for good.
pub record ComesBack (old : Peer) (now : ℕ) (is_planned has_place comes_back : Bool) (new : Peer) : Type 0 where
  pub tries : comes_back ≡ true ↔ (IsSome old.end × Tries old is_planned has_place)
  pub lost : comes_back ≡ true → old.loss ≡ None → (new.loss ≡ old.end) × (new.times.lost_at ≡ now)
  pub first : IsSome old.loss → (new.loss ≡ old.loss) × (new.times.lost_at ≡ old.times.lost_at)
  pub final : IsSome old.end → new.is_final ≡ not comes_back
  pub out : comes_back ≡ true → new.is_welcome ≡ false
  pub end : new.end ≡ old.end
  pub tells : comes_back ≡ true → old.loss ≡ None → TellsLoss old new
  pub untold : (comes_back ≡ true → IsSome old.loss) → IsUntold old new
  pub rest : new ≡ record old {
    bytes = new.bytes;
    notice = new.notice;
    is_final = new.is_final;
    is_welcome = new.is_welcome;
    loss = new.loss;
    times = record old.times { lost_at = new.times.lost_at };
  }

-- nothing was decided, though a part of the text may be put down
pub record IsAsBefore (old new : Peer) : Type 0 where
  pub bytes : IsMore old.bytes.items new.bytes.items
  pub rest : new ≡ record old { bytes = new.bytes; notice = new.notice }

-- so many seconds have passed since the loss
abbrev pub IsOver : Peer → ℕ → Type 0
IsOver p now = IsSome p.loss × (p.times.again < 65535) × (p.times.again * 1000 ≤ now - p.times.lost_at)

-- a loss is given up: the time is over, or the peer has decided not to come back
abbrev pub GivesUp : Peer → ℕ → Type 0
GivesUp p now = IsOver p now ⊎ ((p.is_final ≡ true) × (p.end ≡ None))

-- A server that doesn't come back in time is given up, and then the loss is the peer's end.
pub record AtLoss (old : Peer) (now : ℕ) (new : Peer) : Type 0 where
  pub final : new.is_final ≡ true ↔ ((old.is_final ≡ true) ⊎ IsOver old now)
  pub over : IsOver old now → new.end ≡ old.loss
  pub end : (new.end ≡ old.end) ⊎ (GivesUp old now × (new.end ≡ old.loss))
  pub stays : old.is_final ≡ false → (IsOver old now → ⊥) → new ≡ old
  pub rest : new ≡ record old { is_final = new.is_final; end = new.end }
