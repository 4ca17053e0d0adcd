-- Reading and writing keep a terminal.
use Rattle.terminal_model.proofs.Vocabulary.{arith, ◌≡◌, ℕ, List, [], ◌∷◌, ◌++◌, refl, ◌∙◌, AllByRecursion, Unit}
use Rattle.terminal_model.proofs.Vocabulary.{Coding, units, units-rest, IsGridSize, Func, functions, opening}
use Rattle.terminal_model.proofs.Vocabulary.{functions-opening, Screen, IsSound, resized, Terminal, IsTerminal, ready}
use Rattle.terminal_model.proofs.Vocabulary.{act, act_all, read_unit, read_units, rest_in, read_byte, reads, Writing}
use Rattle.terminal_model.proofs.Vocabulary.{IsWriting, writes, writes_all}
use Rattle.terminal_model.proofs.Sound.{IsSound-effect, IsSound-resized}
use Rattle.terminal_model.proofs.Spellings.{begun, nothing-opened}

-- units keep a sound screen, and something incomplete that units can leave; the incomplete
-- character stays
record Reads (t u : Terminal) : Type 0 where
  sound : IsSound u.screen
  opened : functions (opening u.unended) ≡ ([], u.unended)
  same : u.rest ≡ t.rest

all-acts : (t : Terminal) (fs : List Func) → IsSound t.screen → functions (opening t.unended) ≡ ([], t.unended)
    → Reads t (act_all t fs).terminal
unfolding act_all act
all-acts t [] h k = record { sound = h; opened = k; same = refl }
all-acts t (f ∷ later) h k =
    let next = all-acts (act t f).terminal later (IsSound-effect t.screen f h) k in
    record { sound = next.sound; opened = next.opened; same = next.same }

all-units : (t : Terminal) (us : List Unit) → IsSound t.screen → functions (opening t.unended) ≡ ([], t.unended)
    → Reads t (read_units t us).terminal
unfolding read_units read_unit
all-units t [] h k = record { sound = h; opened = k; same = refl }
all-units t (u ∷ later) h k =
    let given = functions (opening t.unended ++ u ∷ []) in
    let one : Reads (record t { unended = given.1 }) (read_unit t u).terminal = all-acts
    (record t { unended = given.1 }) given.0 h (functions-opening (opening t.unended ++ u ∷ [])) in
    let next : Reads (read_unit t u).terminal (read_units (read_unit t u).terminal later).terminal = all-units
    (read_unit t u).terminal later one.sound one.opened in
    record { sound = next.sound; opened = next.opened; same = next.same ∙ one.same }

rest-begun : (rest : List ℕ) (c d : Coding) → units c rest ≡ ([], rest)
    → units d (rest_in rest c d) ≡ ([], rest_in rest c d)
rest-begun rest c d h = grind (arith, begun)

pub IsTerminal-read_byte : (t : Terminal) (b : ℕ) → IsTerminal t → IsTerminal (read_byte t b).terminal
unfolding read_byte
IsTerminal-read_byte t b h = grind (arith, all-units, begun, rest-begun, units-rest)

pub IsTerminal-reads : (t : Terminal) (bytes : List ℕ) → IsTerminal t → IsTerminal (reads t bytes).terminal
unfolding reads
IsTerminal-reads t [] h = h
IsTerminal-reads t (b ∷ later) h = IsTerminal-reads (read_byte t b).terminal later (IsTerminal-read_byte t b h)

pub IsTerminal-ready : (x : Screen) → IsSound x → IsTerminal (ready x)
IsTerminal-ready x h = record { sound = h; begun = begun x.state.coding; opened = nothing-opened }

IsTerminal-resized : (rows columns : ℕ) (t : Terminal) → IsGridSize rows columns → IsTerminal t
    → IsTerminal (record t { screen = resized rows columns t.screen })
unfolding resized
IsTerminal-resized rows columns t g h = record
    { sound = IsSound-resized rows columns t.screen g h.sound; begun = h.begun; opened = h.opened }

pub IsTerminal-writes : (t : Terminal) (w : Writing) → IsWriting w → IsTerminal t → IsTerminal (writes t w).terminal
IsTerminal-writes t w h k = grind (arith, IsTerminal-reads, IsTerminal-resized, IsTerminal-ready)

pub IsTerminal-writes_all : (t : Terminal) (ws : List Writing) → AllByRecursion IsWriting ws → IsTerminal t
    → IsTerminal (writes_all t ws).terminal
unfolding writes_all
IsTerminal-writes_all t [] g h = h
IsTerminal-writes_all t (w ∷ later) g h = IsTerminal-writes_all (writes t w).terminal later g.1
    (IsTerminal-writes t w g.0 h)
