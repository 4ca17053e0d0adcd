-- Reading goes on, and the functions of the bytes are those that act.
use Rattle.terminal_model.proofs.Vocabulary.{common_steps, arith, ◌≡◌, ℕ, List, [], ◌∷◌, ◌++◌, refl, sym, ap, ◌∙◌}
use Rattle.terminal_model.proofs.Vocabulary.{append_assoc, append-nil, Unit, Func, Rest, functions, with_front, opening}
use Rattle.terminal_model.proofs.Vocabulary.{functions-go_on, functions-opening, Screen, effect, report, Terminal, Act}
use Rattle.terminal_model.proofs.Vocabulary.{Read, joined, act, act_all, read_unit, read_units, read_byte, reads}
use Rattle.terminal_model.proofs.Vocabulary.{Writing, Output, writes, writes_all}

joined_assoc : (r s u : Read) → joined (joined r s) u ≡ joined r (joined s u)
joined_assoc r s u = simp append_assoc

-- bytes read in two pieces are read as at once
pub reads-append : (t : Terminal) (a b : List ℕ) → reads t (a ++ b) ≡ joined (reads t a) (reads (reads t a).terminal b)
unfolding reads
reads-append t [] b = refl
reads-append t (x ∷ a) b = grind (arith, common_steps, reads-append (read_byte t x).terminal a b)

-- a window's writing in two pieces is its writing at once
pub writes_all-append : (t : Terminal) (a b : List Writing)
    → writes_all t (a ++ b) ≡ joined (writes_all t a) (writes_all (writes_all t a).terminal b)
unfolding writes_all
writes_all-append t [] b = refl
writes_all-append t (w ∷ a) b = grind (arith, common_steps, writes_all-append (writes t w).terminal a b)

-- output that comes in two pieces is one output
pub writes_all-output : (t : Terminal) (a b : List ℕ) (later : List Writing)
    → writes_all t (Output a ∷ Output b ∷ later) ≡ writes_all t (Output (a ++ b) ∷ later)
unfolding writes_all
writes_all-output t a b later = grind (arith, reads-append, joined_assoc)

-- functions that act on a screen, one after another
abbrev pub effects : Screen → List Func → Screen
effects x [] = x
effects x (f ∷ later) = effects (effect x f) later

abbrev pub reports_of : Screen → List Func → List ℕ
reports_of x [] = []
reports_of x (f ∷ later) = report x f ++ reports_of (effect x f) later

abbrev pub acts_of : Screen → List Func → List Act
acts_of x [] = []
acts_of x (f ∷ later) = record { before = x; func = f } ∷ acts_of (effect x f) later

-- the terminal after these functions, with what is incomplete
abbrev pub outcome : Screen → List Func → List ℕ → Rest → Read
outcome x fs rest unended = record {
  terminal = record { screen = effects x fs; rest = rest; unended = unended };
  reports = reports_of x fs;
  acts =
      acts_of x fs;
}

pub effects-append : (x : Screen) (a b : List Func) → effects x (a ++ b) ≡ effects (effects x a) b
effects-append x [] b = refl
effects-append x (f ∷ a) b = effects-append (effect x f) a b

reports_of-append : (x : Screen) (a b : List Func)
    → reports_of x (a ++ b) ≡ reports_of x a ++ reports_of (effects x a) b
reports_of-append x [] b = refl
reports_of-append x (f ∷ a) b = grind (arith, common_steps, reports_of-append (effect x f) a b)

acts_of-append : (x : Screen) (a b : List Func) → acts_of x (a ++ b) ≡ acts_of x a ++ acts_of (effects x a) b
acts_of-append x [] b = refl
acts_of-append x (f ∷ a) b = ap (λ r. record { before = x; func = f } ∷ r) (acts_of-append (effect x f) a b)

pub outcome-append : (x : Screen) (a b : List Func) (r r' : List ℕ) (u u' : Rest)
    → outcome x (a ++ b) r' u' ≡ joined (outcome x a r u) (outcome (effects x a) b r' u')
outcome-append x a b r r' u u' = rw (effects-append x a b, reports_of-append x a b, acts_of-append x a b) refl

pub act_all-is : (x : Screen) (r : List ℕ) (u : Rest) (fs : List Func)
    → act_all (record { screen = x; rest = r; unended = u }) fs ≡ outcome x fs r u
unfolding act_all act
act_all-is x r u [] = refl
act_all-is x r u (f ∷ later) = rw (act_all-is (effect x f) r u later) refl

-- the functions of units, one unit after another
pub read_units-is : (x : Screen) (r : List ℕ) (u : Rest) (us : List Unit) → functions (opening u) ≡ ([], u)
    → read_units (record { screen = x; rest = r; unended = u }) us ≡ outcome x (functions (opening u ++ us)).0 r
    (functions (opening u ++ us)).1
unfolding read_units read_unit
read_units-is x r u [] h = rw (append-nil (opening u), h) refl
read_units-is x r u (v ∷ vs) h =
    let here = functions (opening u ++ v ∷ []) in
    let e : functions (opening u ++ v ∷ vs) ≡ with_front here.0 (functions (opening here.1 ++ vs)) =
    ap functions (sym (append_assoc (opening u) (v ∷ []) vs)) ∙ functions-go_on (opening u ++ v ∷ []) vs in
    let later = read_units-is (effects x here.0) r here.1 vs (functions-opening (opening u ++ v ∷ [])) in
    rw (act_all-is x r here.1 here.0, later, e)
    (sym (outcome-append x here.0 (functions (opening here.1 ++ vs)).0 r r here.1 (functions (opening here.1 ++ vs)).1))
