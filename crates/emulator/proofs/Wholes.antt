-- Complete functions at the beginning of some bytes, performed at once.
use Rattle.emulator.proofs.Vocabulary.{◌≡◌, ℕ, ◌+◌, ◌-◌, ◌<◌, ◌≤◌, true, List, [], ◌∷◌, ◌++◌, length, take, drop}
use Rattle.emulator.proofs.Vocabulary.{get_or, map, refl, sym, ap, ◌∙◌, subst, append-nil, arith, nat_tests, take_all}
use Rattle.emulator.proofs.Vocabulary.{take_more, get_or-take, length-take, Coding, Utf8, text, IsText, Decoding}
use Rattle.emulator.proofs.Vocabulary.{is_plain, is_character, Func, Print, Control, nothing, functions, kept, ReadsAs}
use Rattle.emulator.proofs.Vocabulary.{Screen, Terminal, Read, IsTerminal, ready, reads, effect-coding}
use Rattle.emulator.proofs.Vocabulary.{IsTerminal-reads, Parts, StandsFor, HasRead, TakesWhole, IsBetween}
use Rattle.std.specs.List.{list_all, prefix_len}
use Rattle.std.proofs.lemmas.List.{take-take, length-drop}
use Rattle.std.proofs.lemmas.List.Elements.{All-weaker}
use Rattle.std.proofs.lemmas.List.Sums.{AllPass-from_list_all, list_all-from_AllPass, prefix_len_passes}
use Rattle.std.proofs.Math.Seq.{take-add}
use Rattle.charsets.specs.declared.decoder.Unit.TheVariants as units
use Rattle.charsets.specs.Units as whole
use Rattle.charsets.proofs.Pieces.{codes-plain}
use Rattle.control_parser.specs.declared.state.State.{State}
use Rattle.control_parser.specs.Grammar.{Rest, is_graphic}
use Rattle.control_parser.proofs.Pieces.{functions-graphic, kept-ground}
use Rattle.control_parser.proofs.Readings as spelled
use Rattle.terminal_model.specs.declared.action.Action.TheVariants as actions
use Rattle.terminal_model.specs.Table.{effect, all_acted}
use Rattle.terminal_model.specs.Reports.{report}
use Rattle.terminal_model.proofs.Readings.{effects, reports_of, acts_of}
use Rattle.terminal_model.proofs.Spellings.{Stays, begun, nothing-opened, reads-is}
use Rattle.emulator.proofs.Feeding.{nothing-has-read, has-read-both}

-- QUIET FUNCTIONS

-- functions that change no coding and aren't answered
abbrev pub AreQuiet : Screen → List Func → Type 0
AreQuiet x [] = Unit {0}
AreQuiet x (f ∷ later) =
    ((effect x f).state.coding ≡ x.state.coding) × (report x f ≡ []) × AreQuiet (effect x f) later

pub quiet-prints : (x : Screen) (codes : List ℕ) → AreQuiet x (map (λ code. Print code) codes)
quiet-prints x [] = tt
quiet-prints x (c ∷ codes) = (effect-coding x (Print c) refl, refl, quiet-prints (effect x (Print c)) codes)

quiet-stays : (c : Coding) (x : Screen) (fs before after : List Func) → AreQuiet x fs → x.state.coding ≡ c
    → fs ≡ before ++ after → (effects x before).state.coding ≡ c
quiet-stays c x fs [] after q h e = h
quiet-stays c x [] (g ∷ before) after q h e = absurd (cc)
quiet-stays c x (f ∷ fs) (g ∷ before) after q h e =
    let same : g ≡ f = cc in
    let later : fs ≡ before ++ after = cc in
    rw same (quiet-stays c (effect x f) fs before after q.2 (q.0 ∙ h) later)

quiet-coding : (x : Screen) (fs : List Func) → AreQuiet x fs → (effects x fs).state.coding ≡ x.state.coding
quiet-coding x [] q = refl
quiet-coding x (f ∷ fs) q = quiet-coding (effect x f) fs q.2 ∙ q.0

quiet-reports : (x : Screen) (fs : List Func) → AreQuiet x fs → reports_of x fs ≡ []
quiet-reports x [] q = refl
quiet-reports x (f ∷ fs) q = rw (q.1, quiet-reports (effect x f) fs q.2) refl

-- bytes that are read as quiet functions
reads-quiet : (c : Coding) (x : Screen) (bytes : List ℕ) (fs : List Func) → x.state.coding ≡ c → ReadsAs c bytes fs
    → AreQuiet x fs
    → reads (ready x) bytes ≡ record { terminal = ready (effects x fs); reports = []; acts = acts_of x fs }
reads-quiet c x bytes fs h w q =
    let stays : Stays c x (functions (whole.units c bytes).0).0 = rw w.1
    (record { coding = λ before after e. quiet-stays c x fs before after q h e }) in
    reads-is bytes x c [] nothing (begun c) nothing-opened stays ∙ rw (w.1, w.0)
    (ap (λ r. record { terminal = ready (effects x fs); reports = r; acts = acts_of x fs }) (quiet-reports x fs q))

-- a terminal between characters, sequences and strings
ready-is : (c : Coding) (e : Parts) (t : Terminal) → StandsFor e t → IsBetween c e → t ≡ ready t.screen
ready-is c e t h b =
    let none : t.rest ≡ [] = sym (ap (λ (d : Decoding). d.rest) h.decoding) ∙ b.whole in
    let ended : t.unended ≡ nothing = kept-ground t.unended (sym h.parsing ∙ b.idle) in
    ap (λ (r : List ℕ). record { screen = t.screen; rest = r; unended = t.unended }) none
    ∙ ap (λ (u : Rest). record { screen = t.screen; rest = []; unended = u }) ended

quiet-has-read : (c : Coding) (e : Parts) (x : Screen) (t : Terminal) (bytes before : List ℕ) (fs : List Func)
    → IsBetween c e → ReadsAs c bytes fs → AreQuiet e.screen fs → x ≡ effects e.screen fs
    → StandsFor e t → HasRead t bytes before (record e { screen = x }) before
quiet-has-read c e x t bytes before fs b w q s h =
    let is : t ≡ ready t.screen = ready-is c e t h b in
    let coding : t.screen.state.coding ≡ c = sym (ap (λ (v : Decoding). v.coding) h.decoding) ∙ b.coding in
    let quiet : AreQuiet t.screen fs = subst (λ (y : Screen). AreQuiet y fs) h.screen q in
    let r = ap (λ (u : Terminal). reads u bytes) is ∙ reads-quiet c t.screen bytes fs coding w quiet in
    record {
      stands = subst (λ (v : Read). StandsFor (record e { screen = x }) v.terminal) (sym r)
          (record {
            terminal = subst (λ (v : Read). IsTerminal v.terminal) r (IsTerminal-reads t bytes h.terminal);
            screen = s ∙ ap (λ (y : Screen). effects y fs) h.screen;
            decoding =
                h.decoding
                ∙ ap (λ (u : Terminal). record { coding = t.screen.state.coding; rest = u.rest }) is
                ∙ ap (λ (d : Coding). record { coding = d; rest = [] }) (sym (quiet-coding t.screen fs quiet));
            parsing = h.parsing ∙ ap (λ (u : Terminal). kept u.unended) is;
          });
      reports = sym (append-nil before) ∙ ap (λ (v : Read). before ++ v.reports) (sym r);
    }

-- WHAT AN EMULATOR TAKES

-- its screen has performed quiet functions that the first bytes are read as
pub quiet-taken : (c : Coding) (x y : Screen) (d : Decoding) (p : State) (old : Parts) (bytes : List ℕ) (count : ℕ)
    (fs : List Func) → record { screen = x; decoding = d; parsing = p } ≡ old → IsBetween c old → count ≤ length bytes
    → ReadsAs c (take count bytes) fs → AreQuiet x fs → y ≡ effects x fs
    → TakesWhole old bytes count (record { screen = y; decoding = d; parsing = p })
quiet-taken c x y d p old bytes count fs e b few w q s =
    subst
    (λ (v : Parts). IsBetween c v → TakesWhole v bytes count (record { screen = y; decoding = d; parsing = p })) e
    (λ k. record {
      taken = λ said t h.
          quiet-has-read c (record { screen = x; decoding = d; parsing = p }) y t (take count bytes) said fs k w q s h;
      few = few;
      decoding = refl;
      parsing = refl;
    })
    b

-- one function
pub one-taken : (c : Coding) (x y : Screen) (d : Decoding) (p : State) (old : Parts) (bytes front : List ℕ) (count : ℕ)
    (f : Func) → record { screen = x; decoding = d; parsing = p } ≡ old → IsBetween c old → count ≤ length bytes
    → take count bytes ≡ front → ReadsAs c front (f ∷ []) → (effect x f).state.coding ≡ x.state.coding
    → report x f ≡ [] → y ≡ effect x f
    → TakesWhole old bytes count (record { screen = y; decoding = d; parsing = p })
one-taken c x y d p old bytes front count f e b few is w k a s =
    quiet-taken c x y d p old bytes count (f ∷ []) e b few (subst (λ (v : List ℕ). ReadsAs c v (f ∷ [])) (sym is) w)
    (k, a, tt) s

pub nothing-whole : (e : Parts) (bytes : List ℕ) → TakesWhole e bytes 0 e
nothing-whole e bytes = record
    { taken = λ said t h. nothing-has-read t e said h; few = omega arith; decoding = refl; parsing = refl }

-- the bytes after the first ones
rest-lent : (bytes : List ℕ) (i : ℕ) → take (length bytes - i) (drop i bytes) ≡ drop i bytes
rest-lent bytes i = take_all (length bytes - i) (drop i bytes) (omega (arith, length-drop i bytes))

pub has-read-on : (t : Terminal) (bytes : List ℕ) (i n : ℕ) (before answered next : List ℕ) (e e' : Parts)
    → HasRead t (take i bytes) before e answered
    → HasRead (reads t (take i bytes)).terminal (take n (take (length bytes - i) (drop i bytes))) answered e' next
    → HasRead t (take (i + n) bytes) before e' next
has-read-on t bytes i n before answered next e e' h k =
    subst (λ (v : List ℕ). HasRead t v before e' next) (sym (take-add i n bytes))
    (has-read-both t (take i bytes) (take n (drop i bytes)) before answered next e e' h
    (subst (λ (v : List ℕ). HasRead (reads t (take i bytes)).terminal (take n v) answered e' next) (rest-lent bytes i)
    k))

-- more functions after those before
pub both-taken : (old mid new : Parts) (bytes : List ℕ) (i n : ℕ) → i ≤ length bytes → TakesWhole old bytes i mid
    → TakesWhole mid (take (length bytes - i) (drop i bytes)) n new → TakesWhole old bytes (i + n) new
both-taken old mid new bytes i n l h k =
    record {
      taken = λ said t s. let first = h.taken said t s in
          has-read-on t bytes i n said said said mid new first (k.taken said _ first.stands);
      few = omega (arith, k.few, ap length (rest-lent bytes i), length-drop i bytes);
      decoding = k.decoding ∙ h.decoding;
      parsing = k.parsing ∙ h.parsing;
    }

pub still-between : (c : Coding) (old new : Parts) (bytes : List ℕ) (n : ℕ) → IsBetween c old
    → TakesWhole old bytes n new → IsBetween c new
still-between c old new bytes n b h = record {
  whole = ap (λ (d : Decoding). d.rest) h.decoding ∙ b.whole;
  idle = h.parsing ∙ b.idle;
  coding = ap (λ (d : Decoding). d.coding) h.decoding ∙ b.coding;
}

-- BYTES

pub front-two : (bytes : List ℕ) (a b : ℕ) → 1 < length bytes → take 1 bytes ≡ a ∷ [] → get_or bytes 1 0 ≡ b
    → take 2 bytes ≡ a ∷ b ∷ []
front-two bytes a b l h e = take_more bytes 1 0 l ∙ ap (λ (v : List ℕ). v ++ get_or bytes 1 0 ∷ []) h
    ∙ ap (λ (c : ℕ). a ∷ c ∷ []) e

pub front-more : (bytes : List ℕ) (a b n : ℕ) → take 2 bytes ≡ a ∷ b ∷ []
    → take (2 + n) bytes ≡ a ∷ b ∷ take n (take (length bytes - 2) (drop 2 bytes))
front-more bytes a b n h =
    take-add 2 n bytes ∙ ap (λ (v : List ℕ). v ++ take n (drop 2 bytes)) h
    ∙ ap (λ (v : List ℕ). a ∷ b ∷ take n v) (sym (rest-lent bytes 2))

pub prints-are : (x : Screen) (codes : List ℕ)
    → all_acted x (map (λ c. actions.Print (units.Code c)) codes) ≡ effects x (map (λ code. Print code) codes)
prints-are x [] = refl
prints-are x (c ∷ codes) = prints-are (effect x (Print c)) codes

character-graphic : (c : ℕ) → is_character c ≡ true → is_graphic c ≡ true
character-graphic c is = grind (arith, nat_tests)

pub text-reads : (bytes : List ℕ) → IsText bytes → ReadsAs Utf8 bytes (map (λ code. Print code) (text bytes))
text-reads bytes is =
    let graphic : list_all is_graphic (text bytes) ≡ true = list_all-from_AllPass is_graphic (text bytes)
    (All-weaker (λ c. is_character c ≡ true) (λ c. is_graphic c ≡ true) character-graphic (text bytes)
    (AllPass-from_list_all is_character (text bytes) is.graphic)) in
    (is.whole, functions-graphic (text bytes) graphic)

-- some of the bytes 20 to 7E at the beginning
plain-front : (n : ℕ) (bytes : List ℕ) → n ≤ prefix_len is_plain bytes → list_all is_plain (take n bytes) ≡ true
plain-front n bytes h =
    list_all-from_AllPass is_plain (take n bytes)
    (λ k d l. let before : k < n = omega (arith, l, length-take n bytes) in
    ap is_plain (get_or-take n bytes k d before) ∙ prefix_len_passes is_plain bytes k d (omega (arith, before, h)))

pub plain-reads : (c : Coding) (bytes : List ℕ) (n run : ℕ) → run ≡ prefix_len is_plain bytes
    → n ≤ length (take run bytes)
    → ReadsAs c (take n bytes) (map (λ code. Print code) (text (take n (take run bytes))))
plain-reads c bytes n run r l =
    let few : n ≤ run = omega (arith, length-take run bytes) in
    let plain : list_all is_plain (take n bytes) ≡ true = plain-front n bytes (omega arith) in
    let same : text (take n (take run bytes)) ≡ take n bytes = ap text (take-take n run bytes few)
    ∙ ap (λ v. v.0) (codes-plain (take n bytes) plain) in
    rw same (spelled.reads-plain c (take n bytes) plain)

-- CR, LF and bytes 20 to 7E
pub line-reads : (codes : List ℕ) → list_all is_plain codes ≡ true
    → ReadsAs Utf8 (0x0D ∷ 0x0A ∷ codes) (Control 0x0D ∷ Control 0x0A ∷ map (λ code. Print code) codes)
line-reads codes plain =
    spelled.reads-append Utf8 (0x0D ∷ 0x0A ∷ []) codes (Control 0x0D ∷ Control 0x0A ∷ [])
    (map (λ code. Print code) codes)
    (spelled.reads-spelled (Control 0x0D ∷ Control 0x0A ∷ []) ((refl, refl), ((refl, refl), tt)))
    (spelled.reads-plain Utf8 codes plain)

pub quiet-line : (x : Screen) (codes : List ℕ)
    → AreQuiet x (Control 0x0D ∷ Control 0x0A ∷ map (λ code. Print code) codes)
quiet-line x codes =
    let y : Screen = effect x (Control 0x0D) in
    let later = quiet-prints (effect y (Control 0x0A)) codes in
    (effect-coding x (Control 0x0D) refl, refl, (effect-coding y (Control 0x0A) refl, refl, later))
