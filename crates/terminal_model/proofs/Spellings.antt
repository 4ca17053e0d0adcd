-- The spelling of a function is read as this function only.
use Rattle.terminal_model.proofs.Vocabulary.{common_steps, ◌≡◌, ℕ, ◌<◌, ⊎_elim, List, [], ◌∷◌, ◌++◌, ◌⊎◌, refl, sym, ap}
use Rattle.terminal_model.proofs.Vocabulary.{◌∙◌, arith, append_assoc, append-nil, nat_tests, Coding, Utf8, Ecma35}
use Rattle.terminal_model.proofs.Vocabulary.{units, cut, units-go_on, units-rest, Func, Esc, Rest, nothing, escape}
use Rattle.terminal_model.proofs.Vocabulary.{functions, functions_behind, with_front, opening}
use Rattle.terminal_model.proofs.Vocabulary.{IsGiven, coding_of, spelling, ReadsAs, functions-go_on, functions-opening}
use Rattle.terminal_model.proofs.Vocabulary.{Screen, effect, report, Terminal, ready, Read, joined, act, act_all}
use Rattle.terminal_model.proofs.Vocabulary.{read_unit, read_units, rest_in, in_coding, read_byte, reads}
use Rattle.charsets.specs.declared.decoder.Unit.TheVariants as codes
use Rattle.charsets.proofs.Encoded.{one_byte}
use Rattle.control_parser.specs.Grammar as grammar
use Rattle.control_parser.proofs.Spelled.{spelled_reads}
use Rattle.terminal_model.proofs.Readings.{effects, outcome, effects-append, outcome-append, read_units-is}
use Rattle.terminal_model.proofs.Codings.{effect-coding, escape-coding, other-coding, utf8-coding}

-- the coding is this one before and after each function
pub record Stays (c : Coding) (x : Screen) (fs : List Func) : Type 0 where
  pub coding : (before after : List Func) → fs ≡ before ++ after → (effects x before).state.coding ≡ c

rest-stays : (r : List ℕ) (c : Coding) → rest_in r c c ≡ r
rest-stays r c = grind arith

-- bytes in a coding that stays: their functions are those that act
pub reads-is : (bs : List ℕ) (x : Screen) (c : Coding) (r : List ℕ) (u : Rest) → units c r ≡ ([], r)
    → functions (opening u) ≡ ([], u)
    → Stays c x (functions (opening u ++ (units c (r ++ bs)).0)).0
    → reads (record { screen = x; rest = r; unended = u }) bs ≡ outcome x
    (functions (opening u ++ (units c (r ++ bs)).0)).0 (units c (r ++ bs)).1
    (functions (opening u ++ (units c (r ++ bs)).0)).1
unfolding reads read_byte
reads-is [] x c r u h k s = rw (append-nil r, h, append-nil (opening u), k) refl
reads-is (b ∷ bs) x c r u h k s =
    let here = units c (r ++ b ∷ []) in
    let later = units c (here.1 ++ bs) in
    let first = functions (opening u ++ here.0) in
    let second = functions (opening first.1 ++ later.0) in
    let us : units c (r ++ b ∷ bs) ≡ (here.0 ++ later.0, later.1) = ap (units c) (sym (append_assoc r (b ∷ []) bs))
    ∙ units-go_on c (r ++ b ∷ []) bs in
    let fs : functions (opening u ++ (units c (r ++ b ∷ bs)).0) ≡ with_front first.0 second =
    ap (λ v. functions (opening u ++ v.0)) us ∙ ap functions (sym (append_assoc (opening u) here.0 later.0))
    ∙ functions-go_on (opening u ++ here.0) later.0 in
    let mine : x.state.coding ≡ c = s.coding [] _ refl in
    let split : (functions (opening u ++ (units c (r ++ b ∷ bs)).0)).0 ≡ first.0 ++ second.0 = ap (λ v. v.0) fs in
    let after : (effects x first.0).state.coding ≡ c = s.coding first.0 second.0 split in
    let byte : read_byte (record { screen = x; rest = r; unended = u }) b ≡ outcome x first.0 here.1 first.1 =
    ap (λ d. let given = units d (r ++ b ∷ []) in in_coding d
    (read_units (record { screen = x; rest = given.1; unended = u }) given.0)) mine
    ∙ ap (in_coding c) (read_units-is x here.1 u here.0 k)
    ∙ ap (λ d. outcome x first.0 (rest_in here.1 c d) first.1) after
    ∙ ap (λ v. outcome x first.0 v first.1) (rest-stays here.1 c) in
    let stays : Stays c (effects x first.0) second.0 = record {
      coding = λ before after e.
          ap (λ y. y.state.coding) (sym (effects-append x first.0 before))
          ∙ s.coding (first.0 ++ before) after
          (ap (λ v. v.0) fs ∙ ap (λ v. first.0 ++ v) e ∙ sym (append_assoc first.0 before after));
    } in
    let rest = reads-is bs (effects x first.0) c here.1 first.1 (units-rest c (r ++ b ∷ []))
    (functions-opening (opening u ++ here.0)) stays in
    ap (λ v. joined v (reads v.terminal bs)) byte
    ∙ ap (joined (outcome x first.0 here.1 first.1)) rest
    ∙ sym (outcome-append x first.0 second.0 here.1 later.1 first.1 second.1)
    ∙ ap (λ v. outcome x v.0 later.1 v.1) (sym fs)
    ∙ ap (λ v. outcome x (functions (opening u ++ (units c (r ++ b ∷ bs)).0)).0 v.1
    (functions (opening u ++ (units c (r ++ b ∷ bs)).0)).1) (sym us)

-- between characters and functions: the bytes give one function and leave nothing incomplete
abbrev pub done : Screen → Func → Read
done x f = record { terminal = ready (effect x f); reports = report x f; acts = record { before = x; func = f } ∷ [] }

abbrev pub ActsAlone : Screen → List ℕ → Func → Type 0
ActsAlone x bytes f = reads (ready x) bytes ≡ record
    { terminal = ready (effect x f); reports = report x f; acts = record { before = x; func = f } ∷ [] }

stays-one : (c : Coding) (x : Screen) (f : Func) → x.state.coding ≡ c → (effect x f).state.coding ≡ c
    → Stays c x (f ∷ [])
stays-one c x f h k = record { coding = λ before after e. stays-at before after e }
  where
    stays-at : (before after : List Func) → f ∷ [] ≡ before ++ after → (effects x before).state.coding ≡ c
    stays-at [] after e = h
    stays-at (g ∷ []) after e = let same : g ≡ f = cc in rw same k
    stays-at (g ∷ g' ∷ more) after e = absurd (cc)

pub begun : (c : Coding) → units c [] ≡ ([], [])
unfolding cut
begun Utf8 = refl
begun Ecma35 = refl

pub nothing-opened : functions (opening nothing) ≡ ([], nothing)
unfolding functions_behind
nothing-opened = refl

one-acts : (c : Coding) (x : Screen) (bytes : List ℕ) (f : Func) → x.state.coding ≡ c → (effect x f).state.coding ≡ c
    → ReadsAs c bytes (f ∷ []) → ActsAlone x bytes f
one-acts c x bytes f h k w = grind
    (arith, common_steps, stays-one, reads-is bytes x c [] nothing (begun c) nothing-opened)

-- BYTES BELOW 80, BETWEEN CHARACTERS

abbrev pub at : Screen → Rest → Terminal
at x u = record { screen = x; rest = []; unended = u }

pub ascii-units : (c : Coding) (b : ℕ) → b < 128 → units c (b ∷ []) ≡ (codes.Code b ∷ [], [])
unfolding cut
ascii-units c b h = grind (arith, nat_tests, one_byte b h [])

-- a byte that completes no function
pub silent : (x : Screen) (u v : Rest) (b : ℕ) (bs : List ℕ) → b < 128
    → functions (opening u ++ codes.Code b ∷ []) ≡ ([], v) → reads (at x u) (b ∷ bs) ≡ reads (at x v) bs
unfolding reads read_byte read_units read_unit act_all
silent x u v b bs h e = rw (ascii-units x.state.coding b h, e) refl

-- a byte that completes a function
pub ending : (x : Screen) (u : Rest) (f : Func) (b : ℕ) (bs : List ℕ) → b < 128
    → functions (opening u ++ codes.Code b ∷ []) ≡ (f ∷ [], nothing)
    → reads (at x u) (b ∷ bs) ≡ joined (done x f) (reads (ready (effect x f)) bs)
unfolding reads read_byte read_units read_unit act_all act
ending x u f b bs h e = rw (ascii-units x.state.coding b h, e) (simp append-nil)

pub escape-opens : functions (opening nothing ++ codes.Code 0x1B ∷ []) ≡ ([], escape [])
unfolding functions_behind grammar.piece grammar.text grammar.controls
escape-opens = refl

pub percent-goes_on : functions (opening (escape []) ++ codes.Code 0x25 ∷ []) ≡ ([], escape (0x25 ∷ []))
unfolding functions_behind grammar.piece grammar.text grammar.controls
percent-goes_on = refl

ecma-ends : functions (opening (escape (0x25 ∷ [])) ++ codes.Code 0x40 ∷ []) ≡ (Esc (0x25 ∷ []) 0x40 ∷ [], nothing)
unfolding functions_behind grammar.piece grammar.text grammar.controls
ecma-ends = refl

-- ESC % @ is read in any coding
ecma-acts : (x : Screen) → ActsAlone x (0x1B ∷ 0x25 ∷ 0x40 ∷ []) (Esc (0x25 ∷ []) 0x40)
unfolding reads
ecma-acts x =
    silent x nothing (escape []) 0x1B (0x25 ∷ 0x40 ∷ []) (omega arith) escape-opens
    ∙ silent x (escape []) (escape (0x25 ∷ [])) 0x25 (0x40 ∷ []) (omega arith) percent-goes_on
    ∙ ending x (escape (0x25 ∷ [])) (Esc (0x25 ∷ []) 0x40) 0x40 [] (omega arith) ecma-ends
    ∙ simp append-nil

-- a terminal between characters and functions, in the coding of a function, reads its spelling as
-- this function
pub spelled-acts : (x : Screen) (f : Func) → IsGiven f → x.state.coding ≡ coding_of f → ActsAlone x (spelling f) f
spelled-acts x (Esc (i ∷ []) last) g h = ⊎_elim
    (λ (k : (effect x (Esc (i ∷ []) last)).state.coding ≡ Utf8).
    one-acts Utf8 x (spelling (Esc (i ∷ []) last)) (Esc (i ∷ []) last) h k (spelled_reads (Esc (i ∷ []) last) g))
    (λ (e : (i ≡ 0x25) × (last ≡ 0x40)). rw (e.0, e.1) (ecma-acts x))
    stays
  where
    stays : ((effect x (Esc (i ∷ []) last)).state.coding ≡ Utf8) ⊎ ((i ≡ 0x25) × (last ≡ 0x40))
    stays = grind (arith, nat_tests, escape-coding, other-coding, utf8-coding)
spelled-acts x f g h = one-acts (coding_of f) x (spelling f) f h (effect-coding x f refl ∙ h) (spelled_reads f g)
