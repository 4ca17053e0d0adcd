-- The functions that act are those of all units of all bytes.
use Rattle.terminal_model.proofs.Vocabulary.{nat_tests, common_steps, arith, ◌≡◌, ℕ, List, [], ◌∷◌, ◌++◌, refl, sym, ap}
use Rattle.terminal_model.proofs.Vocabulary.{◌∙◌, append_assoc, map-append, AllByRecursion, Unit, Coding, units}
use Rattle.terminal_model.proofs.Vocabulary.{units-go_on, Func, functions, with_front, opening, functions-go_on, Screen}
use Rattle.terminal_model.proofs.Vocabulary.{effect, Terminal, IsTerminal, Act, Read, joined, rest_in, read_byte, reads}
use Rattle.terminal_model.specs.Whole.{functions_of_bytes, acted_functions, KeepsCoding, IsWhole}
use Rattle.terminal_model.proofs.Readings.{effects, acts_of, read_units-is, reads-append}
use Rattle.terminal_model.proofs.Terminals.{IsTerminal-read_byte, IsTerminal-reads}

acted_are : (x : Screen) (fs : List Func) → acted_functions (acts_of x fs) ≡ fs
acted_are x [] = refl
acted_are x (f ∷ later) = ap (λ gs. f ∷ gs) (acted_are (effect x f) later)

same_coding : (x : Screen) (fs : List Func) → AllByRecursion KeepsCoding (acts_of x fs)
    → (effects x fs).state.coding ≡ x.state.coding
same_coding x [] k = refl
same_coding x (f ∷ later) k = same_coding (effect x f) later k.1 ∙ k.0

front_keeps : (a b : List Act) → AllByRecursion KeepsCoding (a ++ b) → AllByRecursion KeepsCoding a
    × AllByRecursion KeepsCoding b
front_keeps [] b k = (tt, k)
front_keeps (x ∷ a) b k = let l = front_keeps a b k.1 in ((k.0, l.0), l.1)

rest_stays : (rest : List ℕ) (c d : Coding) → d ≡ c → rest_in rest c d ≡ rest
rest_stays rest c d same = grind (arith, nat_tests)

-- what one byte gives
record IsStep (t : Terminal) (b : ℕ) : Type 0 where
  functions_are : acted_functions (read_byte t b).acts ≡ (functions_of_bytes t (b ∷ [])).0
  unended_is : (read_byte t b).terminal.unended ≡ (functions_of_bytes t (b ∷ [])).1
  rest_is : (read_byte t b).terminal.rest ≡ rest_in (units t.screen.state.coding (t.rest ++ b ∷ [])).1
      t.screen.state.coding (read_byte t b).terminal.screen.state.coding
  coding_is : AllByRecursion KeepsCoding (read_byte t b).acts
      → (read_byte t b).terminal.screen.state.coding ≡ t.screen.state.coding

step : (t : Terminal) (b : ℕ) → IsTerminal t → IsStep t b
unfolding read_byte
step t b h = grind (arith, read_units-is, acted_are, same_coding)

-- the functions of bytes after others
further : (t u : Terminal) (front later : List ℕ) → u.screen.state.coding ≡ t.screen.state.coding
    → u.rest ≡ (units t.screen.state.coding (t.rest ++ front)).1 → u.unended ≡ (functions_of_bytes t front).1
    → functions_of_bytes t (front ++ later) ≡ with_front (functions_of_bytes t front).0 (functions_of_bytes u later)
further t u front later coding rest unended =
    let c : Coding = t.screen.state.coding in
    let first = units c (t.rest ++ front) in
    let behind : List Unit = (units c (first.1 ++ later)).0 in
    let joins : (units c (t.rest ++ (front ++ later))).0 ≡ first.0 ++ behind = ap (λ bs. (units c bs).0)
    (sym (append_assoc t.rest front later)) ∙ ap (λ p. p.0) (units-go_on c (t.rest ++ front) later) in
    let same : functions (opening (functions_of_bytes t front).1 ++ behind) ≡ functions_of_bytes u later = rw
    (coding, rest, unended) refl in
    ap (λ us. functions (opening t.unended ++ us)) joins
    ∙ ap functions (sym (append_assoc (opening t.unended) first.0 behind))
    ∙ functions-go_on (opening t.unended ++ first.0) behind
    ∙ ap (with_front (functions_of_bytes t front).0) same

further_rest : (t u : Terminal) (front later : List ℕ) → u.screen.state.coding ≡ t.screen.state.coding
    → u.rest ≡ (units t.screen.state.coding (t.rest ++ front)).1
    → (units t.screen.state.coding (t.rest ++ (front ++ later))).1 ≡ (units u.screen.state.coding (u.rest ++ later)).1
further_rest t u front later coding rest = grind (arith, common_steps, units-go_on)

pub whole : (t : Terminal) (bytes : List ℕ) → IsTerminal t → AllByRecursion KeepsCoding (reads t bytes).acts
    → IsWhole t bytes
unfolding reads
whole t [] h k = grind (arith, common_steps)
whole t (b ∷ later) h k =
    let r : Read = read_byte t b in
    let u : Terminal = r.terminal in
    let s : Read = reads u later in
    let keeps = front_keeps r.acts s.acts k in
    let one = step t b h in
    let coding = one.coding_is keeps.0 in
    let rest : u.rest ≡ (units t.screen.state.coding (t.rest ++ b ∷ [])).1 = grind (arith, one, coding, rest_stays) in
    let next = whole u later (IsTerminal-read_byte t b h) keeps.1 in
    let all = further t u (b ∷ []) later coding rest one.unended_is in
    record {
      functions_are = grind (arith, map-append, one.functions_are, next.functions_are, all);
      unended_is = next.unended_is ∙ sym (ap (λ p. p.1) all);
      rest_is = next.rest_is ∙ sym (further_rest t u (b ∷ []) later coding rest);
      coding_is = next.coding_is ∙ coding;
    }

-- One more byte, which may change the coding.
one_more : (t : Terminal) (b : ℕ)
    → reads t (b ∷ []) ≡ joined (read_byte t b)
    (record { terminal = (read_byte t b).terminal; reports = []; acts = [] })
unfolding reads
one_more t b = refl

pub whole_piece : (t : Terminal) (bytes : List ℕ) (b : ℕ) → IsTerminal t
    → AllByRecursion KeepsCoding (reads t bytes).acts
    → (acted_functions (reads t (bytes ++ b ∷ [])).acts ≡ (functions_of_bytes t (bytes ++ b ∷ [])).0)
    × ((reads t (bytes ++ b ∷ [])).terminal.unended ≡ (functions_of_bytes t (bytes ++ b ∷ [])).1)
whole_piece t bytes b h k =
    let w = whole t bytes h k in
    let u : Terminal = (reads t bytes).terminal in
    let one = step u b (IsTerminal-reads t bytes h) in
    let all = further t u bytes (b ∷ []) w.coding_is w.rest_is w.unended_is in
    grind (arith, common_steps, reads-append t bytes (b ∷ []), one_more u b, one, w, all)

-- in another coding no character is incomplete
changed_rest : (rest : List ℕ) (c d : Coding) → (d ≡ c → ⊥) → rest_in rest c d ≡ []
changed_rest rest c d h = grind (arith, nat_tests)

pub begins_anew : (t : Terminal) (bytes : List ℕ) (b : ℕ) → IsTerminal t
    → AllByRecursion KeepsCoding (reads t bytes).acts
    → ((reads t (bytes ++ b ∷ [])).terminal.screen.state.coding ≡ t.screen.state.coding → ⊥)
    → (reads t (bytes ++ b ∷ [])).terminal.rest ≡ []
begins_anew t bytes b h k ne =
    let w = whole t bytes h k in
    let u : Terminal = (reads t bytes).terminal in
    let one = step u b (IsTerminal-reads t bytes h) in
    grind (arith, reads-append t bytes (b ∷ []), one_more u b, one, w, changed_rest)
