-- What was drawn for clients stays after keys, commands and output.
use Rattle.session_core.proofs.Vocabulary.{◌≡◌, ℕ, ◌<◌, Bool, true, false, List, [], ◌∷◌, Option, Some, Ok, Err, ap}
use Rattle.session_core.proofs.Vocabulary.{sym, ◌∙◌, subst, take, arith, if◌then◌else◌, ◌==◌, nat_tests, UserId, Keys}
use Rattle.session_core.proofs.Vocabulary.{Command, Output, Tables, Client, row_of, window_at, client_at, with_client}
use Rattle.session_core.proofs.Vocabulary.{Deed, outputs, keys_outcome, taken, Outcome, finished, done, outcome, Rises}
use Rattle.session_core.proofs.Vocabulary.{client_serials, all_weaken}
use Rattle.std.proofs.Common.{⊎_elim}
use Rattle.std.specs.List.{AllByRecursion}
use Rattle.keys.specs.Grammar.{Item}
use Rattle.session_model.specs.Tables.{is_known}
use Rattle.session_model.specs.Lines.{line_caller, read_line}
use Rattle.session_model.specs.Deeds.{Answer}
use Rattle.session_model.specs.Commands.{does}
use Rattle.session_model.specs.Answering.{reading}
use Rattle.session_model.specs.Keying.{items_behind, typed_bytes, command_item}
use Rattle.session_model.specs.Promises.{SomeOf}
use Rattle.session_laws.proofs.Doing.{Either}
use Rattle.session_laws.proofs.Keeping.{core, Keeps, keeps}
use Rattle.session_laws.proofs.Lists.{some_weaken, some_row, row_serial, itself, members}
use Rattle.session_laws.proofs.Past.{keys_keep}
use Rattle.session_laws.proofs.Showing.{some_has, all_row}
use Rattle.session_laws.proofs.Outcomes as outcomes
use Rattle.session_core.proofs.Needless.{serial_of}

-- a client that was there, and was drawn the same last
abbrev IsDrawnSo : Client → Client → Type 0
IsDrawnSo d c = (c.serial ≡ d.serial) × (c.drawn ≡ d.drawn)

abbrev pub StayDrawn : List Client → List Client → Type 0
StayDrawn before after = AllByRecursion (λ d. SomeOf (IsDrawnSo d) before) after

same_drawn : (cs : List Client) → StayDrawn cs cs
same_drawn cs = all_weaken (λ d. SomeOf (λ c. c ≡ d) cs) (λ d. SomeOf (IsDrawnSo d) cs) cs
    (λ d some. some_weaken (λ c. c ≡ d) (IsDrawnSo d) cs
    (λ c e. (ap (λ (x : Client). x.serial) e, ap (λ (x : Client). x.drawn) e)) some) (members cs)

kept_drawn : (before after : List Client) → Keeps before after → StayDrawn before after
kept_drawn before after all = all_weaken (λ d. SomeOf (λ c. core c ≡ core d) before) (λ d. SomeOf (IsDrawnSo d) before)
    after
    (λ d some. some_weaken (λ c. core c ≡ core d) (IsDrawnSo d) before
    (λ c e. (ap (λ (x : Client). x.serial) e, ap (λ (x : Client). x.drawn) e)) some) all

then_drawn : (first cs ds : List Client) → StayDrawn first cs → StayDrawn cs ds → StayDrawn first ds
then_drawn first cs ds one two = all_weaken (λ d. SomeOf (IsDrawnSo d) cs) (λ d. SomeOf (IsDrawnSo d) first) ds
    (λ d some. through cs one d some) two where
      through : (cs : List Client) → StayDrawn first cs → (d : Client) → SomeOf (IsDrawnSo d) cs
          → SomeOf (IsDrawnSo d) first
      through [] all d some = absurd some
      through (c ∷ cs) all d some = ⊎_elim
          (λ (here : IsDrawnSo d c). some_weaken (IsDrawnSo c) (IsDrawnSo d) first
          (λ b so. (so.0 ∙ here.0, so.1 ∙ here.1))
          all.0) (λ later. through cs all.1 d later) some

-- ---- the events

read_drawn : (t : Tables) (n : ℕ) (c : Client) (read : List ℕ) → client_at t n ≡ Some c
    → StayDrawn t.clients (with_client t (reading read c)).clients
read_drawn t n c read at = all_row (λ d. SomeOf (IsDrawnSo d) t.clients) serial_of t.clients c.serial (reading read c)
    (some_weaken (λ b. b ≡ c) (IsDrawnSo c) t.clients
    (λ b e. (ap (λ (x : Client). x.serial) e, ap (λ (x : Client). x.drawn) e))
    (some_row serial_of t.clients n c at)) (same_drawn t.clients)

pub keys_drawn : (t : Tables) (client : ℕ) (bytes : List ℕ)
    → StayDrawn t.clients (outcome t (Keys client bytes)).tables.clients
keys_drawn t client bytes = outcomes.found (λ o. StayDrawn t.clients o.tables.clients) t
    (λ c. keys_outcome t c (take (taken c.keys bytes) bytes)) (client_at t client) (same_drawn t.clients) on where
      on : (c : Client) → client_at t client ≡ Some c
          → StayDrawn t.clients (keys_outcome t c (take (taken c.keys bytes) bytes)).tables.clients
      on c at =
          let read : List ℕ = take (taken c.keys bytes) bytes in
          let given : List Item = items_behind c.keys read in
          let x : Client = reading read c in
          let u : Tables = with_client t x in
          let o : Outcome = keys_outcome t c read in
          then_drawn t.clients u.clients o.tables.clients (read_drawn t client c read at)
          (kept_drawn u.clients o.tables.clients (keys_keep u x (typed_bytes given) (command_item given)))

deed_drawn : (t : Tables) (a : Answer) (d : Deed) → a ≡ Ok d → Either (λ (e : Deed). Keeps t.clients e.tables.clients) a
    → StayDrawn t.clients d.tables.clients
deed_drawn t (Ok e) d is all = let same : e ≡ d = cc (is) in subst (λ (x : Deed). StayDrawn t.clients x.tables.clients)
    same (kept_drawn t.clients e.tables.clients all)
deed_drawn t (Err r) d is all = absurd (cc (is))

pub line_drawn : (t : Tables) (user : UserId) (number : Option ℕ) (bytes : List ℕ)
    → StayDrawn t.clients (outcome t (Command user number bytes)).tables.clients
line_drawn t user number bytes = outcomes.by_line (λ o. StayDrawn t.clients o.tables.clients) t
    (line_caller t user number) (is_known t user) (read_line bytes)
    (λ vs f. same_drawn t.clients)
    (λ c d known read passes is. deed_drawn t (does t (line_caller t user number) c) d is
    (keeps t (line_caller t user number) c))

pub output_drawn : (t : Tables) (window : ℕ) (bytes : List ℕ)
    → StayDrawn t.clients (outcome t (Output window bytes)).tables.clients
output_drawn t window bytes = outcomes.found (λ o. StayDrawn t.clients o.tables.clients) t
    (λ w. finished t [] done (outputs t w bytes)) (window_at t window) (same_drawn t.clients)
    (λ w at. same_drawn t.clients)

-- ---- the rows

above_row : (cs : List Client) (n s : ℕ) (q : Client) → AllByRecursion (λ m. n < m) (client_serials cs)
    → row_of serial_of cs s ≡ Some q → n < q.serial
above_row [] n s q all is = absurd (cc (is))
above_row (r ∷ cs) n s q all is = on (r.serial == s) is (above_row cs n s q all.1) where
  on : (b : Bool) → (if b then Some r else row_of serial_of cs s) ≡ Some q
      → (row_of serial_of cs s ≡ Some q → n < q.serial) → n < q.serial
  on true is more = let e : r ≡ q = cc (is) in subst (λ (x : Client). n < x.serial) e all.0
  on false is more = more is

below_off : (m n : ℕ) → m < n → (m == n) ≡ false
below_off m n lt = grind (arith, nat_tests, lt)

abbrev Found : (Client → Type 0) → List Client → Type 0
Found P cs = (q : Client) × (row_of serial_of cs q.serial ≡ Some q) × P q

found_first : (P : Client → Type 0) (r : Client) (cs : List Client) → P r → Found P (r ∷ cs)
found_first P r cs is = (r, ap (λ (b : Bool). if b then Some r else row_of serial_of cs r.serial) (itself r.serial), is)

found_later : (P : Client → Type 0) (r : Client) (cs : List Client)
    → AllByRecursion (λ m. r.serial < m) (client_serials cs) → Found P cs → Found P (r ∷ cs)
found_later P r cs above m =
    let q : Client = m.0 in
    let off : (r.serial == q.serial) ≡ false = below_off r.serial q.serial (above_row cs r.serial q.serial q above m.1)
    in
    (q, ap (λ (b : Bool). if b then Some r else row_of serial_of cs q.serial) off ∙ m.1, m.2)

found_some : (P : Client → Type 0) (cs : List Client) (next : ℕ) → Rises (client_serials cs) next → SomeOf P cs
    → Found P cs
found_some P [] next rise some = absurd some
found_some P (r ∷ cs) next rise some = ⊎_elim (found_first P r cs)
    (λ later. found_later P r cs rise.1 (found_some P cs next rise.2 later)) some

-- a client that is there was there, and was drawn the same last
pub was_drawn : (before after : List Client) (next n : ℕ) (d : Client) → Rises (client_serials before) next
    → StayDrawn before after → row_of serial_of after n ≡ Some d
    → (c : Client) × (row_of serial_of before n ≡ Some c) × (c.drawn ≡ d.drawn)
was_drawn before after next n d rise stay at =
    let some : SomeOf (IsDrawnSo d) before = some_has (λ x. SomeOf (IsDrawnSo x) before) d after
    (some_row serial_of after n d at) stay in
    let m = found_some (IsDrawnSo d) before next rise some in
    (m.0, ap (row_of serial_of before) (sym (m.2.0 ∙ row_serial serial_of after n d at)) ∙ m.1, m.2.1)
