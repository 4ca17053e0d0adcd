-- What a peer does of its own as time goes by: exactly this, unless memory is refused.
use Rattle.std.specs.Prelude.{◌≡◌, ◌≢◌, ℕ, ◌+◌, ◌≤◌, true, false, min, None, Some, unwrap_or, [], ◌++◌}
use Rattle.attach_proto.specs.declared.kind.Kind.TheVariants.{Detach, Keys}
use Rattle.attach_proto.specs.declared.message.Message.TheVariants.{Resize}
use Rattle.attach_proto.specs.Spelling.{frame, spelling}
use Rattle.client_notice.specs.declared.notice.NoticeTask.{NoticeTask}
use Rattle.client_notice.specs.declared.notice.NoticeTask.TheVariants as deed
use Rattle.client_notice.specs.Notices.{turned}
use Rattle.client_typing.specs.Fitting.{fit_keys}
use Rattle.client_typing.specs.Following.{Follows, Rests, StaysBeside}
use Rattle.client_peer.specs.declared.looking.PeerTask.{PeerTask}
use Rattle.client_peer.specs.declared.looking.PeerTask.TheVariants as task
use Rattle.client_peer.specs.declared.peer.Peer.{Peer}
use Rattle.client_peer.specs.Looking.{IsToLeave}
use Rattle.client_peer.specs.Showing.{ShowsNotice, is_free}

-- nothing is put down for the server or for the terminal
abbrev pub IsUnmoved : Peer → Peer → Type 0
IsUnmoved old new = (new.frames.items ≡ old.frames.items) × (new.bytes.items ≡ old.bytes.items)

-- the terminal's size has to stay the same until this time: for 150 ms after the first look
abbrev pub fit_time : Peer → ℕ → ℕ
fit_time p now = unwrap_or p.times.fit_at (min (now + 150) 18446744073709551615)

abbrev pub MayFit : Peer → Type 0
MayFit p = (p.times.wants_fit ≡ true) × (p.is_welcome ≡ true)

abbrev pub IsToFit : Peer → ℕ → Type 0
IsToFit p now = MayFit p × (fit_time p now ≤ now) × Rests p.typing

abbrev pub fitting : Peer → Peer → Peer
fitting old new = record old {
  frames = new.frames;
  typing = new.typing;
  times = record old.times { wants_fit = new.times.wants_fit; fit_at = new.times.fit_at };
}

-- The window in focus waits for its region's size as before.
abbrev pub IsUnfitted : Peer → Peer → Type 0
IsUnfitted old new = (new.times.wants_fit ≡ old.times.wants_fit) × (new.times.fit_at ≡ old.times.fit_at)

-- The window in focus is given its region's size, once, as soon as the session waits for no key. Else no key is sent.
pub record Fits (old : Peer) (now : ℕ) (new : Peer) : Type 0 where
  pub fits : IsToFit old now → (new.frames.items ≡ old.frames.items ++ frame Keys fit_keys)
      × Follows old.typing.keys fit_keys new.typing.keys × StaysBeside old.typing new.typing
      × (new.times.wants_fit ≡ false) × (new.times.fit_at ≡ None)
  pub waits : (IsToFit old now → ⊥) → (new.frames.items ≡ old.frames.items) × (new.typing ≡ old.typing)
      × (new.times.wants_fit ≡ old.times.wants_fit)
  pub counts : MayFit old → (IsToFit old now → ⊥) → new.times.fit_at ≡ Some (fit_time old now)
  pub rests : (MayFit old → ⊥) → new.times.fit_at ≡ old.times.fit_at

-- what the text on the last line asks for
abbrev pub Does : NoticeTask → Peer → ℕ → Peer → Type 0
Does deed.Nothing old now new = (new.bytes.items ≡ old.bytes.items) × Fits old now new
Does deed.Show old now new =
    ShowsNotice old new × (new.frames.items ≡ old.frames.items) × (new.typing ≡ old.typing) × IsUnfitted old new
Does deed.TakeAway old now new =
    (new.bytes.items ≡ old.bytes.items) × (new.typing ≡ old.typing) × IsUnfitted old new
    × (new.frames.items ≡ old.frames.items ++ spelling (Resize old.rows old.columns))

-- The text is shown or taken away when it is its turn, and if it isn't, the window gets its size when it is to.
pub record Acts (old : Peer) (now : ℕ) (new : Peer) : Type 0 where
  pub does : NoticeTask
  pub turn : (new.notice.stage, does) ≡ turned old.notice.stage now old.times.has_typed (is_free old)
  pub done : Does does old now new
  pub seen : new.times.has_typed ≡ false

-- the connection is open, and neither is the input begun now nor a window opened again
abbrev pub IsOpen : PeerTask → Peer → Type 0
IsOpen next p =
    (p.end ≡ None) × (p.times.left_at ≡ None) × (p.is_reopening ≡ false) × (next ≢ task.Begin)

-- While the connection is open, the client acts of its own; else nothing is sent or shown.
pub record ActsIf (old : Peer) (now : ℕ) (next : PeerTask) (new : Peer) : Type 0 where
  pub acts : IsOpen next new → Acts old now new
  pub rests : (IsOpen next new → ⊥)
      → IsUnmoved old new × (new.typing ≡ old.typing) × (new.notice ≡ old.notice) × IsUnfitted old new
      × (new.times.has_typed ≡ old.times.has_typed)

-- the user leaves now
abbrev pub IsLeaving : Peer → ℕ → Type 0
IsLeaving p now = (p.times.left_at ≡ None) × IsToLeave p now

-- The server is told when the user leaves.
pub record ActsInTime (old : Peer) (now : ℕ) (next : PeerTask) (new : Peer) : Type 0 where
  pub leaves : IsLeaving old now
      → (new.frames.items ≡ old.frames.items ++ frame Detach []) × (new.bytes.items ≡ old.bytes.items)
  pub acts : (IsLeaving old now → ⊥) → ActsIf old now next new
