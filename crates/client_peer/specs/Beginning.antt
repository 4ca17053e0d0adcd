-- How a peer begins.
use Rattle.std.specs.Prelude.{◌≡◌, false, [], None}
use Rattle.client_words.specs.declared.arguments.Arguments.{Arguments}
use Rattle.client_page.specs.Kept.{Begins}
use Rattle.client_typing.specs.Assisting.{at, beginning}
use Rattle.client_typing.specs.Following.{IsUnread, LeavesBy}
use Rattle.draw_check.specs.Places.{place_after}
use Rattle.client_peer.specs.declared.looking.Timers.{Timers}
use Rattle.client_peer.specs.declared.peer.Peer.{Peer}

-- how long it tries to come back and waits for an answer, and nothing that has happened
abbrev pub times_of : Arguments → Timers
times_of a = record {
  again = a.again;
  wait = a.wait;
  has_begun = false;
  paired = None;
  left_at = None;
  ended_at = None;
  lost_at = 0;
  has_typed = false;
  wants_fit = false;
  fit_at = None;
}

-- It is what its arguments say. No server has let it in, nothing waits, and nothing has ended.
pub record IsBegun (a : Arguments) (p : Peer) : Type 0 where
  pub subcommand : p.subcommand ≡ a.subcommand
  pub size : (p.rows ≡ a.rows) × (p.columns ≡ a.columns) × (p.fits ≡ a.fit)
  pub typing : IsUnread p.typing × (at p.typing ≡ beginning) × LeavesBy a.leave p.typing.leave
      × (p.typing.assists ≡ a.assist)
  pub page : Begins a p.page.emulator × (p.page.held.items ≡ []) × (p.page.is_hidden ≡ false)
  pub out : (p.is_welcome ≡ false) × (p.was_welcome ≡ false) × (p.is_reopening ≡ false) × (p.session.items ≡ [])
  pub frames : (p.frames.items ≡ []) × (p.sent ≡ 0) × (p.is_sending ≡ false) × (p.is_stuck ≡ false)
      × (p.is_shut ≡ false)
  pub output : (p.bytes.items ≡ []) × (p.sizes.items ≡ []) × (p.early.items ≡ []) × (p.is_writing ≡ false)
  pub terminal : (p.draws ≡ place_after []) × (p.is_cut ≡ false) × (p.is_covered ≡ false) × (p.is_helping ≡ false)
  pub ends : (p.end ≡ None) × (p.loss ≡ None) × (p.fault ≡ None) × (p.said ≡ None) × (p.is_final ≡ false)
  pub times : p.times ≡ times_of a
