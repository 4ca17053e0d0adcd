-- Whole frames for the server.
use Rattle.std.proofs.Common.{◌≡◌, ◌≢◌, ◌⊎◌, inl, inr, ◌∙◌, ℕ, zero, suc, List, [], ◌∷◌, ◌++◌, map, flat_map, refl}
use Rattle.std.proofs.Common.{sym, ap, append-nil, append_assoc, arith, Result, Ok, Err}
use Rattle.std.proofs.lemmas.List.Concat.{flat_map-append}
use Rattle.std.specs.Prelude.{IfErr}
use Rattle.attach_proto.specs.declared.kind.Kind.TheVariants as kind
use Rattle.attach_proto.specs.declared.message.Message.TheVariants as message
use Rattle.attach_proto.specs.Spelling.{frame, spelling}
use Rattle.client_typing.specs.Framing.{Sends}
use Rattle.client_words.specs.declared.fault.PeerFault.{PeerFault}
use Rattle.client_peer.specs.declared.peer.Peer.{Peer}
use Rattle.client_peer.specs.Failing.{FailsTyping}
use Rattle.client_peer.specs.Sending.{HasMoreFrames}
use Rattle.client_peer.specs.Typing.{TellsScrolled}

more_none : (old new : List ℕ) → new ≡ old → HasMoreFrames old new
more_none old new same = ([], same ∙ sym (append-nil old))

pub more_size : (old new : List ℕ) (rows columns : ℕ) → new ≡ old ++ spelling (message.Resize rows columns)
    → HasMoreFrames old new
more_size old new rows columns is = (
  message.Resize rows columns ∷ [],
  is ∙ ap (λ (l : List ℕ). old ++ l) (sym (append-nil (spelling (message.Resize rows columns)))),
)

keys_spelled : (pieces : List (List ℕ))
    → flat_map (frame kind.Keys) pieces ≡ flat_map spelling (map message.Keys pieces)
unfolding spelling
keys_spelled [] = refl
keys_spelled (p ∷ ps) = ap (λ (l : List ℕ). frame kind.Keys p ++ l) (keys_spelled ps)

pub more_keys : (old new bytes : List ℕ) → Sends old new kind.Keys bytes → HasMoreFrames old new
more_keys old new bytes s =
    (map message.Keys s.pieces, s.added ∙ ap (λ (l : List ℕ). old ++ l) (keys_spelled s.pieces))

pub more_then : (old middle new : List ℕ) → HasMoreFrames old middle → HasMoreFrames middle new → HasMoreFrames old new
more_then old middle new a b = (
  a.0 ++ b.0,
  b.1 ∙ ap (λ (l : List ℕ). l ++ flat_map spelling b.0) a.1
      ∙ append_assoc old (flat_map spelling a.0) (flat_map spelling b.0)
      ∙ ap (λ (l : List ℕ). old ++ l) (sym (flat_map-append spelling a.0 b.0)),
)

same_number : (a b : ℕ) → (a ≡ b) ⊎ (a ≢ b)
same_number zero zero = inl refl
same_number zero (suc b) = inr (λ e. omega (arith, e))
same_number (suc a) zero = inr (λ e. omega (arith, e))
same_number (suc a) (suc b) =
    elim (same_number a b) [ inl e ↦ inl (ap suc e) | inr n ↦ inr (λ e. n (omega (arith, e))) ]

-- a client that tells how far its view was moved asks for the page, or puts nothing down
pub more_told : (old new : Peer) (before : ℕ) (frames : List ℕ) → TellsScrolled old new before frames
    → HasMoreFrames frames new.frames.items
more_told old new before frames t = elim (same_number new.typing.back before) [
  | inl same ↦ more_none frames new.frames.items (t.same same).0
  | inr moved ↦ elim (same_number new.typing.back 0) [
    | inl end ↦ more_size frames new.frames.items old.rows old.columns (t.end moved end).0
    | inr far ↦ more_none frames new.frames.items (t.back moved far).0
  ]
]

-- what fails after whole frames were put down
pub fails_then : (old middle new : Peer) (e : PeerFault) → middle.bytes.items ≡ old.bytes.items
    → HasMoreFrames old.frames.items middle.frames.items → FailsTyping middle new e → FailsTyping old new e
fails_then old middle new e bytes more f = (
  f.0,
  f.1 ∙ bytes,
  more_then old.frames.items middle.frames.items new.frames.items more f.2,
)

pub fails_if : {T : Type 0} (r : Result T PeerFault) (old middle new : Peer) → middle.bytes.items ≡ old.bytes.items
    → HasMoreFrames old.frames.items middle.frames.items → IfErr r (FailsTyping middle new)
    → IfErr r (FailsTyping old new)
fails_if (Ok x) old middle new bytes more f = tt
fails_if (Err e) old middle new bytes more f = fails_then old middle new e bytes more f
