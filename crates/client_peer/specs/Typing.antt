-- What of the input is sent.
use Rattle.std.specs.Prelude.{◌≡◌, ◌≢◌, ◌==◌, ℕ, ◌+◌, ◌-◌, ◌%◌, ◌<◌, ◌≤◌, Bool, true, false, not, ◌&&◌, ◌||◌, List}
use Rattle.std.specs.Prelude.{[], ◌++◌, length, None, Contains, IsSome}
use Rattle.attach_proto.specs.declared.kind.Kind.TheVariants.{Keys}
use Rattle.attach_proto.specs.declared.message.Message.TheVariants.{Resize}
use Rattle.attach_proto.specs.Spelling.{spelling}
use Rattle.client_words.specs.declared.arguments.Subcommand.TheVariants.{Window}
use Rattle.client_notice.specs.declared.notice.NoticeStage.TheVariants as stage
use Rattle.client_notice.specs.Notices.{IsNew, scrolled}
use Rattle.client_typing.specs.Assisting.{Makes, at}
use Rattle.client_typing.specs.Following.{LetsThrough, Follows, StaysBeside}
use Rattle.client_peer.specs.declared.peer.Peer.{Peer}
use Rattle.client_typing.specs.Framing.{Sends}
use Rattle.client_peer.specs.Sending.{Prints}
use Rattle.client_peer.specs.Showing.{IsUncovered, ShowsHelp}

-- If the view was moved, the last line tells how far back it is. If it came to its end, the page is asked for, and the
-- text is put away.
pub record TellsScrolled (old new : Peer) (before : ℕ) (frames : List ℕ) : Type 0 where
  pub same : new.typing.back ≡ before → (new.frames.items ≡ frames) × (new.notice ≡ old.notice)
  pub end : new.typing.back ≢ before → new.typing.back ≡ 0
      → (new.frames.items ≡ frames ++ spelling (Resize old.rows old.columns)) × (new.notice.stage ≡ stage.Nothing)
  pub back : new.typing.back ≢ before → new.typing.back ≢ 0
      → (new.frames.items ≡ frames) × IsNew (scrolled new.typing.back) new.notice

-- What a client with keys of its own makes of keys is put down whole and in order, and then it tells how far the view
-- was moved back. It shows its help exactly if the last key asks for it.
pub record SendsAssisted (old new : Peer) (typed : List ℕ) : Type 0 where
  pub sent : List ℕ
  pub frames : List ℕ
  pub makes : Makes (old.rows - 3) (at old.typing) typed sent (at new.typing)
  pub sends : Sends old.frames.items frames Keys sent
  pub tells : TellsScrolled old new old.typing.back frames
  pub helps : new.typing.asks_help ≡ true → ShowsHelp old new
  pub other : new.typing.asks_help ≡ false → IsUncovered old new

-- A client that shows no help puts keys down whole and in order. With --fit they are followed, so that `fit` comes
-- between two keys. Only a client with keys of its own puts something on the terminal.
pub record Types (old new : Peer) (typed : List ℕ) : Type 0 where
  pub sends : old.typing.assists ≡ false → Sends old.frames.items new.frames.items Keys typed
  pub follows : old.typing.assists ≡ false → old.fits ≡ true → Follows old.typing.keys typed new.typing.keys
  pub rest : old.typing.assists ≡ false
      → (new ≡ record old { frames = new.frames; typing = new.typing }) × StaysBeside old.typing new.typing
  pub assisted : old.typing.assists ≡ true → SendsAssisted old new typed

-- the most bytes of a key
abbrev pub longest_key : ℕ
longest_key = 8

-- The help goes, and the page is asked for. A key that takes it away is dropped. What can be no key, since it has more
-- bytes, is typed after that: it was pasted, or typed ahead.
pub record LeavesHelp (old new : Peer) (typed : List ℕ) : Type 0 where
  pub page : Peer
  pub asks : page.frames.items ≡ old.frames.items ++ spelling (Resize old.rows old.columns)
  pub goes : page ≡ record old { frames = page.frames; is_helping = false; is_covered = old.is_cut }
  pub key : length typed ≤ longest_key → new ≡ page
  pub more : longest_key < length typed → Types page new typed

-- What a client does with keys. While no server is there, they are dropped, and C-c ends the client.
pub record Presses (old new : Peer) (typed : List ℕ) : Type 0 where
  pub types : old.loss ≡ None → old.is_helping ≡ false → Types old new typed
  pub helped : old.loss ≡ None → old.is_helping ≡ true → LeavesHelp old new typed
  pub lost : IsSome old.loss → new ≡ record old { is_final = new.is_final; end = new.end }
  pub ends : IsSome old.loss → Contains typed 3 → (new.is_final ≡ true) × (new.end ≡ old.loss)
  pub lasts : ((IsSome old.loss × Contains typed 3) → ⊥) → (new.is_final ≡ old.is_final) × (new.end ≡ old.end)

-- a peer with what typing may have changed of it
abbrev pub typed_in : Peer → Peer → Peer
typed_in old new = record old {
  typing = new.typing;
  frames = new.frames;
  page = new.page;
  bytes = new.bytes;
  draws = new.draws;
  notice = new.notice;
  is_helping = new.is_helping;
  is_covered = new.is_covered;
  is_final = new.is_final;
  end = new.end;
  times = record old.times { has_typed = new.times.has_typed };
}

-- the same without the note that something was typed, and of a client whose server is there
abbrev pub pressed_in : Peer → Peer → Peer
pressed_in old new = typed_in old (record new { times = old.times })

abbrev pub assisted_in : Peer → Peer → Peer
assisted_in old new = pressed_in old (record new { is_final = old.is_final; end = old.end })

-- a peer that has read some input, and has made nothing of it yet
abbrev pub reading : Peer → Peer → Peer
reading old new = record old {
  typing = record old.typing { leave = new.typing.leave; reads = new.typing.reads };
}

-- and notes that it is a key
abbrev pub pressing : Peer → Peer → Peer
pressing old new = record (reading old new) { times = record old.times { has_typed = true } }

-- What is read of standard input: what a client's user typed, or what a window's program printed.
pub record TypesIn (old new : Peer) (input : List ℕ) : Type 0 where
  pub typed : List ℕ
  pub through : LetsThrough old.typing.leave input typed new.typing.leave
  pub counts : (new.typing.reads ≡ (old.typing.reads + 1) % 4294967296) × (new.typing.assists ≡ old.typing.assists)
  pub prints : old.subcommand ≡ Window → Prints (reading old new) new typed
  pub none : (old.subcommand ≡ Window → ⊥) → typed ≡ [] → new ≡ reading old new
  pub presses : (old.subcommand ≡ Window → ⊥) → (typed ≡ [] → ⊥)
      → Presses (pressing old new) new typed × (new.times.has_typed ≡ true)

-- A window gets the size of its region: it was to get it, or with --fit it has another size now.
abbrev pub is_to_fit : Peer → ℕ → ℕ → Bool
is_to_fit p rows columns =
    p.times.wants_fit || (p.fits && (not (rows == p.rows) || not (columns == p.columns)))
