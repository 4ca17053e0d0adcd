-- The terminals that an emulator stands for, unit by unit and byte by byte.
use Rattle.emulator.proofs.Vocabulary.{◌≡◌, ℕ, ◌<◌, ◌+◌, List, [], ◌∷◌, ◌++◌, length, take, get_or, refl, sym, ap, ◌∙◌}
use Rattle.emulator.proofs.Vocabulary.{subst, append_assoc, append-nil, arith, take_more, Coding, Decoding, units, Func}
use Rattle.emulator.proofs.Vocabulary.{nothing, functions, kept, opening, functions-opening, IsGridSize, Screen}
use Rattle.emulator.proofs.Vocabulary.{IsSound, Terminal, Read, IsTerminal, ready, joined, read_unit, read_units}
use Rattle.emulator.proofs.Vocabulary.{in_coding, read_byte, reads, Size, writes, IsTerminal-ready}
use Rattle.emulator.proofs.Vocabulary.{IsTerminal-read_byte, IsTerminal-writes, Parts, StandsFor, StandsWithin, HasRead}
use Rattle.charsets.specs.declared.decoder.Unit.{Unit}
use Rattle.terminal_model.specs.Sizing.{resized}
use Rattle.terminal_model.proofs.Readings.{effects, reports_of, outcome, act_all-is, read_units-is, reads-append}
use Rattle.emulator.specs.Standing.{HasReadWithin, HasReadByte, in_screen_coding}

-- UNITS

-- a unit that completes these functions
pub unit-read : (old new : Parts) (t : Terminal) (u : Unit) (said : List ℕ) (fs : List Func) → StandsWithin old t
    → (functions (opening t.unended ++ u ∷ [])).0 ≡ fs → new.screen ≡ effects old.screen fs
    → new.parsing ≡ kept (functions (opening t.unended ++ u ∷ [])).1 → said ≡ reports_of old.screen fs
    → HasReadWithin (read_unit t u) new said
unfolding read_unit
unit-read old new t u said fs h g s p a =
    let given = functions (opening t.unended ++ u ∷ []) in
    let is : read_unit t u ≡ outcome t.screen fs t.rest given.1 = act_all-is t.screen t.rest given.1 given.0
    ∙ ap (λ (v : List Func). outcome t.screen v t.rest given.1) g in
    subst (λ (r : Read). HasReadWithin r new said) (sym is)
    (record {
      stands = record {
        opened = functions-opening (opening t.unended ++ u ∷ []);
        screen = s ∙ ap (λ (x : Screen). effects x fs) h.screen;
        parsing = p;
      };
      reports = a ∙ ap (λ (x : Screen). reports_of x fs) h.screen;
    })

pub units-none : (t : Terminal) (e : Parts) → StandsWithin e t → HasReadWithin (read_units t []) e []
unfolding read_units
units-none t e h = record { stands = h; reports = refl }

pub units-more : (t : Terminal) (u : Unit) (us : List Unit) (e e' : Parts) (said said' : List ℕ)
    → HasReadWithin (read_unit t u) e said → HasReadWithin (read_units (read_unit t u).terminal us) e' said'
    → HasReadWithin (read_units t (u ∷ us)) e' (said ++ said')
unfolding read_units
units-more t u us e e' said said' h k = record {
  stands = k.stands;
  reports = ap (λ (v : List ℕ). v ++ said') h.reports ∙ ap (λ (v : List ℕ). (read_unit t u).reports ++ v) k.reports;
}

pub units-one : (t : Terminal) (u : Unit) (e : Parts) (said : List ℕ) → HasReadWithin (read_unit t u) e said
    → HasReadWithin (read_units t (u ∷ [])) e said
units-one t u e said h = subst (λ (v : List ℕ). HasReadWithin (read_units t (u ∷ [])) e v) (append-nil said)
    (units-more t u [] e e said [] h (units-none (read_unit t u).terminal e h.stands))

-- A BYTE

-- the decoder has given the units of a byte, and they are read
pub byte-read : (old mid after new : Parts) (t : Terminal) (b : ℕ) (us : List Unit) (said : List ℕ) → StandsFor old t
    → mid.screen ≡ old.screen → mid.parsing ≡ old.parsing → mid.decoding.coding ≡ old.decoding.coding
    → units old.decoding.coding (old.decoding.rest ++ b ∷ []) ≡ (us, mid.decoding.rest)
    → ((u : Terminal) → StandsWithin mid u → HasReadWithin (read_units u us) after said)
    → after.decoding ≡ mid.decoding → new.screen ≡ after.screen → new.parsing ≡ after.parsing
    → new.decoding ≡ in_screen_coding after → HasReadByte (read_byte t b) new said
unfolding read_byte
byte-read old mid after new t b us said h s p c u read d s' p' n =
    let coding : Coding = t.screen.state.coding in
    let rest : List ℕ = mid.decoding.rest in
    let given : units coding (t.rest ++ b ∷ []) ≡ (us, rest) = subst
    (λ (v : Decoding). units v.coding (v.rest ++ b ∷ []) ≡ (us, rest)) h.decoding u in
    let r : Read = read_units (record t { rest = rest }) us in
    let is : read_byte t b ≡ in_coding coding r = ap
    (λ (v : List Unit × List ℕ). in_coding coding (read_units (record t { rest = v.1 }) v.0)) given in
    let k : HasReadWithin r after said = read (record t { rest = rest })
    (record { opened = h.terminal.opened; screen = s ∙ h.screen; parsing = p ∙ h.parsing }) in
    let same : r.terminal.rest ≡ rest = ap (λ (v : Read). v.terminal.rest)
    (read_units-is t.screen rest t.unended us h.terminal.opened) in
    let decoded : after.decoding ≡ record { coding = coding; rest = r.terminal.rest } =
    d ∙ ap (λ (v : Coding). record { coding = v; rest = rest }) (c ∙ ap (λ (v : Decoding). v.coding) h.decoding)
    ∙ ap (λ (v : List ℕ). record { coding = coding; rest = v }) (sym same) in
    subst (λ (v : Read). HasReadByte v new said) (sym is)
    (record {
      stands = record {
        terminal = subst (λ (v : Read). IsTerminal v.terminal) is (IsTerminal-read_byte t b h.terminal);
        screen = s' ∙ k.stands.screen;
        decoding = n ∙ ap (λ (x : Screen). in_screen_coding (record after { screen = x })) k.stands.screen
            ∙ ap (λ (v : Decoding). in_screen_coding (record {
              screen = r.terminal.screen;
              decoding = v;
              parsing = after.parsing;
            })) decoded;
        parsing = p' ∙ k.stands.parsing;
      };
      reports = k.reports;
    })

-- BYTES

reads-one : (t : Terminal) (b : ℕ) → reads t (b ∷ []) ≡ read_byte t b
unfolding reads
reads-one t b = simp append-nil

pub nothing-has-read : (t : Terminal) (e : Parts) (before : List ℕ) → StandsFor e t → HasRead t [] before e before
unfolding reads
nothing-has-read t e before h = record { stands = h; reports = sym (append-nil before) }

-- the first byte
pub byte-has-read : (t : Terminal) (bytes before said next : List ℕ) (e : Parts) → 0 < length bytes
    → HasReadByte (read_byte t (get_or bytes 0 0)) e said → next ≡ before ++ said
    → HasRead t (take 1 bytes) before e next
byte-has-read t [] before said next e l h n = absurd (omega arith)
byte-has-read t (b ∷ bytes) before said next e l h n =
    record {
      stands = subst (λ (r : Read). StandsFor e r.terminal) (sym (reads-one t b)) h.stands;
      reports = n ∙ ap (λ (v : List ℕ). before ++ v) (h.reports ∙ ap (λ (r : Read). r.reports) (sym (reads-one t b)));
    }

-- one more byte
pub reads-more : (t : Terminal) (bytes : List ℕ) (i : ℕ) → i < length bytes
    → (reads t (take (i + 1) bytes)).terminal ≡
    (read_byte (reads t (take i bytes)).terminal (get_or bytes i 0)).terminal
reads-more t bytes i l =
    ap (λ (v : List ℕ). (reads t v).terminal) (take_more bytes i 0 l)
    ∙ ap (λ (r : Read). r.terminal)
    (reads-append t (take i bytes) (get_or bytes i 0 ∷ [])
    ∙ ap (joined (reads t (take i bytes))) (reads-one (reads t (take i bytes)).terminal (get_or bytes i 0)))

-- bytes after others
pub has-read-both : (t : Terminal) (a b before answered next : List ℕ) (e e' : Parts) → HasRead t a before e answered
    → HasRead (reads t a).terminal b answered e' next
    → HasRead t (a ++ b) before e' next
has-read-both t a b before answered next e e' h k =
    record {
      stands = subst (λ (r : Read). StandsFor e' r.terminal) (sym (reads-append t a b)) k.stands;
      reports =
          k.reports
          ∙ ap (λ (v : List ℕ). v ++ (reads (reads t a).terminal b).reports) h.reports
          ∙ append_assoc before (reads t a).reports (reads (reads t a).terminal b).reports
          ∙ ap (λ (r : Read). before ++ r.reports) (sym (reads-append t a b));
    }

-- BETWEEN CHARACTERS, SEQUENCES AND STRINGS

pub stands-ready : (e : Parts) (x : Screen) → IsSound x → e.screen ≡ x
    → e.decoding ≡ record { coding = x.state.coding; rest = [] } → e.parsing ≡ kept nothing → StandsFor e (ready x)
stands-ready e x sound s d p = record { terminal = IsTerminal-ready x sound; screen = s; decoding = d; parsing = p }

-- a change of size
pub stands-resized : (old e : Parts) (t : Terminal) (rows columns : ℕ) → IsGridSize rows columns → StandsFor old t
    → e.screen ≡ resized rows columns old.screen
    → e.decoding ≡ old.decoding → e.parsing ≡ old.parsing → StandsFor e (writes t (Size rows columns)).terminal
unfolding resized
stands-resized old e t rows columns g h s d p =
    record {
      terminal = IsTerminal-writes t (Size rows columns) g h.terminal;
      screen = s ∙ ap (resized rows columns) h.screen;
      decoding = d ∙ h.decoding;
      parsing = p ∙ h.parsing;
    }
