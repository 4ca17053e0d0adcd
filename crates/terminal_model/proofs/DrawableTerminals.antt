-- Reading and writing keep a terminal's screen drawable.
use Rattle.terminal_model.proofs.Vocabulary.{common_steps, arith, ◌≡◌, ℕ, List, [], ◌∷◌, ◌++◌, sym, ap, subst}
use Rattle.terminal_model.proofs.Vocabulary.{AllByRecursion, Unit, IsUnit, Func, Rest, functions, opening, IsGiven}
use Rattle.terminal_model.proofs.Vocabulary.{Screen, effect, Terminal, IsTerminal, ready, Read, read_units, read_byte}
use Rattle.terminal_model.proofs.Vocabulary.{reads, Writing, Output, IsWriting, writes, writes_all, IsDrawableScreen}
use Rattle.charsets.proofs.Scalars.{units-are}
use Rattle.control_parser.proofs.Given.{given_all}
use Rattle.control_parser.proofs.Openings.{opening-units}
use Rattle.terminal_model.specs.Writing.{Size, Clear, Reset, Encoding}
use Rattle.terminal_model.proofs.Readings.{effects, read_units-is}
use Rattle.terminal_model.proofs.Terminals.{IsTerminal-read_byte, IsTerminal-ready, IsTerminal-writes}
use Rattle.terminal_model.proofs.DrawableScreens.{drawable-effect, drawable-resized}

drawable-effects : (x : Screen) (fs : List Func) → AllByRecursion IsGiven fs → IsDrawableScreen x
    → IsDrawableScreen (effects x fs)
drawable-effects x [] g h = h
drawable-effects x (f ∷ later) g h = drawable-effects (effect x f) later g.1 (drawable-effect x f g.0 h)

all-append : (us vs : List Unit) → AllByRecursion IsUnit us → AllByRecursion IsUnit vs
    → AllByRecursion IsUnit (us ++ vs)
all-append us vs h k = grind (arith, common_steps)

drawable-units : (t : Terminal) (us : List Unit) → AllByRecursion IsUnit us
    → functions (opening t.unended) ≡ ([], t.unended) → IsDrawableScreen t.screen
    → IsDrawableScreen (read_units t us).terminal.screen
drawable-units t us g k h =
    let begins : AllByRecursion IsUnit (opening t.unended) =
    subst (λ (r : Rest). AllByRecursion IsUnit (opening r)) (ap (λ (v : List Func × Rest). v.1) k)
    (opening-units (opening t.unended)) in
    let given : AllByRecursion IsGiven (functions (opening t.unended ++ us)).0 = given_all (opening t.unended ++ us)
    (all-append (opening t.unended) us begins g) in
    subst (λ (r : Read). IsDrawableScreen r.terminal.screen) (sym (read_units-is t.screen t.rest t.unended us k))
    (drawable-effects t.screen (functions (opening t.unended ++ us)).0 given h)

drawable-read_byte : (t : Terminal) (b : ℕ) → IsTerminal t → IsDrawableScreen t.screen
    → IsDrawableScreen (read_byte t b).terminal.screen
unfolding read_byte
drawable-read_byte t b k h = search (drawable-units, units-are)

pub drawable-reads : (t : Terminal) (bytes : List ℕ) → IsTerminal t → IsDrawableScreen t.screen
    → IsDrawableScreen (reads t bytes).terminal.screen
unfolding reads
drawable-reads t [] k h = h
drawable-reads t (b ∷ later) k h = drawable-reads (read_byte t b).terminal later (IsTerminal-read_byte t b k)
    (drawable-read_byte t b k h)

drawable-writes : (t : Terminal) (w : Writing) → IsTerminal t → IsDrawableScreen t.screen
    → IsDrawableScreen (writes t w).terminal.screen
drawable-writes t (Output bytes) k h = drawable-reads t bytes k h
drawable-writes t (Size rows columns) k h = drawable-resized rows columns t.screen h
drawable-writes t Clear k h = drawable-reads (ready t.screen) _ (IsTerminal-ready t.screen k.sound) h
drawable-writes t Reset k h = drawable-reads (ready t.screen) _ (IsTerminal-ready t.screen k.sound) h
drawable-writes t (Encoding coding) k h = drawable-reads (ready t.screen) _ (IsTerminal-ready t.screen k.sound) h

pub drawable-writes_all : (t : Terminal) (ws : List Writing) → AllByRecursion IsWriting ws → IsTerminal t
    → IsDrawableScreen t.screen → IsDrawableScreen (writes_all t ws).terminal.screen
unfolding writes_all
drawable-writes_all t [] g k h = h
drawable-writes_all t (w ∷ later) g k h = drawable-writes_all (writes t w).terminal later g.1
    (IsTerminal-writes t w g.0 k) (drawable-writes t w k h)
