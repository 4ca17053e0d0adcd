-- Worked rows on what clients see.
use Rattle.std.specs.Prelude.{◌≡◌, ℕ, List, [], ◌∷◌, Some, None, codes, replicate, map, take}
use Rattle.acl.specs.declared.leaders.Edition.TheVariants.{Second}
use Rattle.acl.specs.declared.bits.Bit.TheVariants.{Read}
use Rattle.cells.specs.declared.cell.Cell.{Cell}
use Rattle.cells.specs.Line.{blank}
use Rattle.cells.specs.Page.{line_at}
use Rattle.terminal_model.specs.Shows.{View, ShowsFromAny}
use Rattle.session_model.specs.declared.event.Effect.{Effect}
use Rattle.session_model.specs.declared.event.Effect.TheVariants.{Deliver}
use Rattle.session_model.specs.Trace.{Draw, Output, Resize}
use Rattle.session_model.specs.Tables.{Tables, Client, with_client}
use Rattle.session_model.specs.Granted.{granted_view}
use Rattle.session_model.specs.Run.{HasEffects, drawn}
use Rattle.session_laws.specs.WorkedSetup.{bob, client, several, after, takes, changes, then_comes}

-- window 2 prints `hi`; after that, aclchg bob -r 2
abbrev pub printed : Tables
printed = then_comes (several Second) (Output 2 (codes "hi"))

abbrev pub revoked : Tables
revoked = after printed (changes (codes "bob" ∷ []) (takes Read) (codes "2" ∷ []))

-- what bob's client is granted to see
abbrev pub seen_by : Tables → View
seen_by t = granted_view t (client 2 bob 2)

-- the characters of a line's first cells
abbrev pub text_of : View → ℕ → ℕ → List ℕ
text_of v line count = map (λ (c : Cell). c.character) (take count (line_at v.page line))

-- bob's client after any draw, and after a new size
abbrev pub resized : List ℕ → View → Tables
resized bytes v =
    then_comes (with_client (several Second)
    (record (client 2 bob 2) { delivered = bytes; drawn = Some v })) (Resize 2 10 40)

-- the row of bob's client
abbrev pub small : Client
small = record (client 2 bob 2) { rows = 10; columns = 40 }

-- the tables after a draw
abbrev pub after_draw : Tables → List Effect → Tables
after_draw t effects = drawn (Draw 2) effects (then_comes t (Draw 2))

-- ---- the rows

-- a window that may be read
abbrev pub Readable : Type 0
Readable =
    (text_of (seen_by printed) 0 3 ≡ codes "hi ")
    × (text_of (seen_by printed) 22 6 ≡ codes "2 two ")
    × ((seen_by printed).cursor ≡ Some (record { line = 0; column = 2 }))

-- after r is taken: all lines of the window are blank, its caption has `?`, and there is no cursor
abbrev pub Revoked : Type 0
Revoked =
    (take 22 (seen_by revoked).page ≡ replicate 22 (replicate 80 blank))
    × (text_of (seen_by revoked) 22 4 ≡ codes "2 ? ")
    × ((seen_by revoked).cursor ≡ None)

-- the first draw after a new size begins with the reset, and shows the view on any terminal of that
-- size
abbrev pub BeginsAnew : Type 0
BeginsAnew = (bytes : List ℕ) (v : View) (effects : List Effect)
    → HasEffects (resized bytes v) (Draw 2) effects
    → (rest : List ℕ)
    × (effects ≡ Deliver 2 (0x18 ∷ 0x1B ∷ 0x63 ∷ 0x1B ∷ 0x25 ∷ 0x47 ∷ rest) ∷ [])
    × ShowsFromAny (0x18 ∷ 0x1B ∷ 0x63 ∷ 0x1B ∷ 0x25 ∷ 0x47 ∷ rest) 10 40
    (granted_view (resized bytes v) small)

-- a second draw without a change has no effect
abbrev pub DrawnOnce : Type 0
DrawnOnce = (effects later : List Effect)
    → HasEffects (several Second) (Draw 2) effects
    → HasEffects (after_draw (several Second) effects) (Draw 2) later
    → later ≡ []
