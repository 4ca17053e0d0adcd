-- Clients by rising serials.
use Rattle.session.proofs.Vocabulary.{ℕ, ◌+◌, ◌<◌, ◌≤◌, ◌^◌, ◌≡◌, refl, sym, ◌∙◌, ap, subst, Bool, true, false, List}
use Rattle.session.proofs.Vocabulary.{[], ◌∷◌, ◌++◌, arith, Option, Some, None, Ok, ◌==◌, nat_lt, nat_le, if◌then◌else◌}
use Rattle.session.proofs.Vocabulary.{MatchOption, flat_map, AllByRecursion, nat_tests, flat_map-append, append-nil}
use Rattle.session.proofs.Vocabulary.{Trace, tables_of, Rises, client_serials, row_serial, view_lines, IsViewOf}
use Rattle.session.proofs.Vocabulary.{client_lines, views}
use Rattle.terminal_model.specs.Shows.{View}
use Rattle.session_model.specs.Tables.{Client, Tables, row_of, client_at}
use Rattle.session_model.specs.Granted.{granted_view}
use Rattle.session_core.specs.Least.{least_from}
use Rattle.session.proofs.Serials.{sound, in_range}

abbrev serial_of : Client → ℕ
serial_of c = c.serial

if_true : {A : Type 0} (b : Bool) (x y : A) → b ≡ true → (if b then x else y) ≡ x
if_true b x y is = ap (λ t. if t then x else y) is

if_false : {A : Type 0} (b : Bool) (x y : A) → b ≡ false → (if b then x else y) ≡ y
if_false b x y is = ap (λ t. if t then x else y) is

-- those below a serial
abbrev pub below : ℕ → List Client → List Client
below n [] = []
below n (c ∷ cs) = if nat_lt c.serial n then c ∷ below n cs else below n cs

is_below : (c n : ℕ) → c < n → nat_lt c n ≡ true
is_below c n lt = grind (arith, nat_tests)

not_below : (c n : ℕ) → n ≤ c → nat_lt c n ≡ false
not_below c n le = grind (arith, nat_tests)

from_true : (n c : ℕ) → nat_le n c ≡ true → n ≤ c
from_true n c is = grind (arith, nat_tests)

from_false : (n c : ℕ) → nat_le n c ≡ false → c < n
from_false n c is = grind (arith, nat_tests)

itself : (c n : ℕ) → c ≡ n → (c == n) ≡ true
itself c n is = grind (arith, nat_tests, is)

another : (c n : ℕ) → c < n → (c == n) ≡ false
another c n lt = grind (arith, nat_tests, lt)

-- all serials are above it
abbrev Above : ℕ → List Client → Type 0
Above n cs = AllByRecursion (λ later. n < later) (client_serials cs)

none_below : (n m : ℕ) (cs : List Client) → n ≤ m + 1 → Above m cs → below n cs ≡ []
none_below n m [] le above = refl
none_below n m (c ∷ cs) le above =
    let here : m < c.serial = above.0 in
    if_false (nat_lt c.serial n) _ _ (not_below c.serial n (omega (arith, le, here))) ∙ none_below n m cs le above.1

pub none_first : (cs : List Client) → below 0 cs ≡ []
none_first [] = refl
none_first (c ∷ cs) = if_false (nat_lt c.serial 0) _ _ (not_below c.serial 0 (omega arith)) ∙ none_first cs

-- if no serial is left from one on
all_below : (from : ℕ) (cs : List Client) → least_from from (client_serials cs) ≡ None → below from cs ≡ cs
all_below from [] none = refl
all_below from (c ∷ cs) none = on (nat_le from c.serial) refl none (all_below from cs) where
  on : (b : Bool) → nat_le from c.serial ≡ b → (if b then Some c.serial else least_from from (client_serials cs)) ≡ None
      → (least_from from (client_serials cs) ≡ None → below from cs ≡ cs) → below from (c ∷ cs) ≡ c ∷ cs
  on true is none others = cc
  on false is none others = if_true (nat_lt c.serial from) _ _ (is_below c.serial from (from_false from c.serial is))
      ∙ ap (λ xs. c ∷ xs) (others none)

-- and if all were given
given_below : (from next : ℕ) (cs : List Client) → next ≤ from → Rises (client_serials cs) next → below from cs ≡ cs
given_below from next [] le rises = refl
given_below from next (c ∷ cs) le rises =
    let here : c.serial < next = rises.0 in
    if_true (nat_lt c.serial from) _ _ (is_below c.serial from (omega (arith, here, le)))
    ∙ ap (λ xs. c ∷ xs) (given_below from next cs le rises.2)

least_at_least : (from n : ℕ) (cs : List Client) → least_from from (client_serials cs) ≡ Some n → from ≤ n
least_at_least from n [] least = cc
least_at_least from n (c ∷ cs) least = on (nat_le from c.serial) refl least (least_at_least from n cs) where
  on : (b : Bool) → nat_le from c.serial ≡ b
      → (if b then Some c.serial else least_from from (client_serials cs)) ≡ Some n
      → (least_from from (client_serials cs) ≡ Some n → from ≤ n) → from ≤ n
  on true is least others = let same : c.serial ≡ n = cc in subst (λ m. from ≤ m) same (from_true from c.serial is)
  on false is least others = others least

-- the client of the least serial from one on comes next
next_below : (from n next : ℕ) (cs : List Client) (c : Client) → Rises (client_serials cs) next
    → least_from from (client_serials cs) ≡ Some n → row_of serial_of cs n ≡ Some c
    → below (n + 1) cs ≡ below from cs ++ c ∷ []
next_below from n next [] c rises least at = cc
next_below from n next (d ∷ cs) c rises least at = on (nat_le from d.serial) refl least
    (next_below from n next cs c rises.2) where
      on : (b : Bool) → nat_le from d.serial ≡ b
          → (if b then Some d.serial else least_from from (client_serials cs)) ≡ Some n
          → (least_from from (client_serials cs) ≡ Some n → row_of serial_of cs n ≡ Some c
          → below (n + 1) cs ≡ below from cs ++ c ∷ []) → below (n + 1) (d ∷ cs) ≡ below from (d ∷ cs) ++ c ∷ []
      on true is least others =
          let same : d.serial ≡ n = cc in
          let found : Some d ≡ Some c = sym
          (if_true (d.serial == n) (Some d) (row_of serial_of cs n) (itself d.serial n same)) ∙ at in
          let here : d ≡ c = cc (found) in
          let le : from ≤ d.serial = from_true from d.serial is in
          if_true (nat_lt d.serial (n + 1)) _ _ (is_below d.serial (n + 1) (omega (arith, same)))
          ∙ (ap (λ ys. d ∷ ys) (none_below (n + 1) d.serial cs (omega (arith, same)) rises.1) ∙ (ap (λ y. y ∷ []) here
          ∙ sym
          (ap (λ ys. ys ++ c ∷ [])
          (if_false (nat_lt d.serial from) _ _ (not_below d.serial from le)
          ∙ none_below from d.serial cs (omega (arith, le)) rises.1))))
      on false is least others =
          let lt : d.serial < from = from_false from d.serial is in
          let le : from ≤ n = least_at_least from n cs least in
          let behind : row_of serial_of cs n ≡ Some c = sym
          (if_false (d.serial == n) (Some d) (row_of serial_of cs n) (another d.serial n (omega (arith, lt, le))))
          ∙ at in
          if_true (nat_lt d.serial (n + 1)) _ _ (is_below d.serial (n + 1) (omega (arith, lt, le)))
          ∙ (ap (λ ys. d ∷ ys) (others least behind)
          ∙ sym (ap (λ ys. ys ++ c ∷ []) (if_true (nat_lt d.serial from) _ _ (is_below d.serial from lt))))

-- ---- what is shown

-- what the clients below a serial are to see
abbrev pub shown_below : Tables → ℕ → List ℕ
shown_below t from = flat_map (client_lines t) (below from t.clients)

pub shown_none : (t : Tables) → shown_below t 0 ≡ []
shown_none t = ap (λ cs. flat_map (client_lines t) cs) (none_first t.clients)

pub shown_all : (t : Tables) (from : ℕ) → least_from from (client_serials t.clients) ≡ None
    → shown_below t from ≡ views t
shown_all t from none = ap (λ cs. flat_map (client_lines t) cs) (all_below from t.clients none)

-- no client has a serial of more than 32 bits
pub shown_last : (h : Trace) (from : ℕ) → 2 ^ 32 ≤ from → shown_below (tables_of h) from ≡ views (tables_of h)
shown_last h from le =
    let small : (tables_of h).next_client ≤ 2 ^ 32 = in_range h in
    ap (λ cs. flat_map (client_lines (tables_of h)) cs)
    (given_below from (tables_of h).next_client (tables_of h).clients (omega (arith, small, le)) (sound h).clients_rise)

next_shown : (t : Tables) (from n next : ℕ) (v : View) (o : Option Client) → Rises (client_serials t.clients) next
    → least_from from (client_serials t.clients) ≡ Some n
    → client_at t n ≡ o → MatchOption o ⊥ (λ c. v ≡ granted_view t c)
    → shown_below t (n + 1) ≡ shown_below t from ++ view_lines n v
next_shown t from n next v None rises least at is = absurd is
next_shown t from n next v (Some c) rises least at is =
    ap (λ cs. flat_map (client_lines t) cs) (next_below from n next t.clients c rises least at)
    ∙ (flat_map-append (client_lines t) (below from t.clients) (c ∷ [])
    ∙ ap (λ xs. shown_below t from ++ xs) (append-nil (client_lines t c)
    ∙ (ap (λ m. view_lines m (granted_view t c)) (row_serial serial_of t.clients n c at)
    ∙ ap (λ w. view_lines n w) (sym is))))

pub shown_next : (h : Trace) (from n : ℕ) (v : View) → least_from from (client_serials (tables_of h).clients) ≡ Some n
    → IsViewOf h n (Ok v)
    → shown_below (tables_of h) (n + 1) ≡ shown_below (tables_of h) from ++ view_lines n v
shown_next h from n v least is =
    next_shown (tables_of h) from n (tables_of h).next_client v (client_at (tables_of h) n) (sound h).clients_rise least
    refl is
