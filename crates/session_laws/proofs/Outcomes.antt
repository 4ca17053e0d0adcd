-- Facts of outcomes: how rows are looked up, how checks come first, how commands are answered, and
-- what comes of each event.
use Rattle.session_laws.proofs.Vocabulary.{◌≡◌, Bool, true, false, Option, Some, None, Ok, Err, Result, List, [], ◌∷◌}
use Rattle.session_laws.proofs.Vocabulary.{◌++◌, ℕ, refl, ap, sym, ◌∙◌, subst, if◌then◌else◌, ◌==◌, take, slice_get}
use Rattle.session_laws.proofs.Vocabulary.{unwrap_or, AllByRecursion, option_and_then, UserId, Order, ParseFault, Item}
use Rattle.session_laws.proofs.Vocabulary.{Shown, Arrangement, empty, kept_alone, has_room, Refusal, NoWindow}
use Rattle.session_laws.proofs.Vocabulary.{UnknownUser, Line, BadSize, Verdict, Check, must, Done, EventValue, Attach}
use Rattle.session_laws.proofs.Vocabulary.{Detach, Keys, Command, Resize, Open, Output, Closed, Draw, Reply, Tables}
use Rattle.session_laws.proofs.Vocabulary.{Window, Client, window_at, client_at, with_client, focused, is_known, Caller}
use Rattle.session_laws.proofs.Vocabulary.{line_caller, read_line, checks, first_fault, verdicts, Answer, Deed}
use Rattle.session_laws.proofs.Vocabulary.{changing, parts, closes, does, reading, types, ordered, Ordered, unsaid}
use Rattle.session_laws.proofs.Vocabulary.{answered, commanded, line_ruling, keys_outcome, Outcome, refused, finished}
use Rattle.session_laws.proofs.Vocabulary.{where_passed, reply_of, done, outcome, with_client_of, attach_checks}
use Rattle.session_laws.proofs.Vocabulary.{new_client, attaches, is_client_size, resized, open_checks, new_window}
use Rattle.session_laws.proofs.Vocabulary.{opens, outputs, taken, items_behind, typed_bytes, command_item, is_resize}
use Rattle.session_laws.proofs.Vocabulary.{itself}
use Rattle.session_model.specs.declared.event.Reason.TheVariants as reason
use Rattle.session_laws.proofs.Doing.{is_plain, Either}
use Rattle.session_laws.proofs.Showing.{Shows, get_all}
use Rattle.session_laws.proofs.Shapes.{own}

pub found : {X : Type 0} (P : Outcome → Type 0) (t : Tables) (f : X → Outcome) (o : Option X)
    → P (refused t [] NoWindow) → ((x : X) → o ≡ Some x → P (f x))
    → P (elim o as (λ _. Outcome) [ None ↦ refused t [] NoWindow | Some x ↦ f x ])
found P t f None none some = none
found P t f (Some x) none some = some x refl

pub passed : (P : Outcome → Type 0) (t : Tables) (vs : List Verdict) (o : Option Refusal) (reply : Reply) (d : Deed)
    → ((r : Refusal) → o ≡ Some r → P (refused t vs r)) → (o ≡ None → P (finished t vs reply d))
    → P (elim o as (λ _. Outcome) [ Some r ↦ refused t vs r | None ↦ finished t vs reply d ])
passed P t vs (Some r) reply d fails passes = fails r refl
passed P t vs None reply d fails passes = passes refl

-- the outcome of a command's answer
pub by_answer : (P : Outcome → Type 0) (t : Tables) (vs : List Verdict) (a : Answer)
    → ((r : Refusal) → a ≡ Err r → P (refused t vs r))
    → ((d : Deed) → a ≡ Ok d → P (finished t vs (reply_of 0 0 0 d.lists) d)) → P (answered t vs a)
by_answer P t vs (Ok d) fails works = works d refl
by_answer P t vs (Err r) fails works = fails r refl

-- the outcome of a command line
pub by_line : (P : Outcome → Type 0) (t : Tables) (k : Caller) (known : Bool) (r : Result Order ParseFault)
    → ((vs : List Verdict) (f : Refusal) → P (refused t vs f))
    → ((c : Order) (d : Deed) → known ≡ true → r ≡ Ok c → first_fault t (checks t k c) ≡ None → does t k c ≡ Ok d
    → P (finished t (verdicts t (checks t k c)) (reply_of 0 0 0 d.lists) d))
    → P (if known then commanded t (line_ruling t k r) else refused t [] UnknownUser)
by_line P t k false r fails works = fails [] UnknownUser
by_line P t k true (Err f) fails works = fails [] (Line f)
by_line P t k true (Ok c) fails works = on (first_fault t (checks t k c)) refl where
  on : (o : Option Refusal) → first_fault t (checks t k c) ≡ o
      → P (answered t (verdicts t (checks t k c)) (elim o as (λ _. Answer) [ Some r ↦ Err r | None ↦ does t k c ]))
  on (Some r) is = fails (verdicts t (checks t k c)) r
  on None is = by_answer P t (verdicts t (checks t k c)) (does t k c) (λ r at. fails (verdicts t (checks t k c)) r)
      (λ d at. works c d refl refl is at)

-- ---- checks of plain facts

-- a check that asks for neither a bit nor a lock
abbrev pub IsMust : Check → Type 0
IsMust (must fact r) = is_plain r ≡ true
IsMust c = ⊥

-- such checks note nothing
no_verdicts : (t : Tables) (cs : List Check) → AllByRecursion IsMust cs → verdicts t cs ≡ []
no_verdicts t [] all = refl
no_verdicts t (must fact r ∷ cs) all = on fact (no_verdicts t cs all.1) where
  on : (b : Bool) → verdicts t cs ≡ [] → (if b then verdicts t cs else []) ≡ []
  on true rest = rest
  on false rest = refl
no_verdicts t (c ∷ cs) all = absurd all.0

plain_fault : (t : Tables) (cs : List Check) (r : Refusal) → AllByRecursion IsMust cs → first_fault t cs ≡ Some r
    → is_plain r ≡ true
plain_fault t [] r all is = absurd (cc (is))
plain_fault t (must fact q ∷ cs) r all is = on fact is (plain_fault t cs r all.1) where
  on : (b : Bool) → (if b then first_fault t cs else Some q) ≡ Some r → (first_fault t cs ≡ Some r → is_plain r ≡ true)
      → is_plain r ≡ true
  on true at rest = rest at
  on false at rest = let e : q ≡ r = cc (at) in subst (λ x. is_plain x ≡ true) e all.0
plain_fault t (c ∷ cs) r all is = absurd all.0

where_musts : (P : Outcome → Type 0) (t : Tables) (cs : List Check) (reply : Reply) (d : Deed)
    → AllByRecursion IsMust cs
    → ((r : Refusal) → is_plain r ≡ true → P (refused t [] r)) → (first_fault t cs ≡ None → P (finished t [] reply d))
    → P (where_passed t cs reply d)
where_musts P t cs reply d all fails passes =
    subst
    (λ vs. P (elim (first_fault t cs) as (λ _. Outcome) [ Some r ↦ refused t vs r | None ↦ finished t vs reply d ]))
    (sym (no_verdicts t cs all))
    (passed P t [] (first_fault t cs) reply d (λ r is. fails r (plain_fault t cs r all is)) passes)

-- ---- events that change one client's row

-- an event that changes one client's row: whose row, what is checked first, and how the row changes
pub record Change : Type 0 where
  pub client : ℕ
  pub checks : List Check
  pub row : Client → Client

abbrev resizing : ℕ → ℕ → ℕ → Change
resizing client rows columns = record
    { client = client; checks = must (is_client_size rows columns) BadSize ∷ []; row = resized rows columns }

-- the change of each such event
abbrev pub change_of : EventValue → Option Change
change_of (Resize client rows columns) = Some (resizing client rows columns)
change_of event = None

-- a client whose draws are forgotten, but perhaps for the last view
abbrev pub undrawn : Bool → Client → Client
undrawn keeps c = record c { delivered = []; drawn = if keeps then c.drawn else None }

-- the facts of such a change that laws need
pub record Changes (event : EventValue) (x : Change) : Type 0 where
  pub happens : (t : Tables)
      → outcome t event ≡ with_client_of t x.client
      (λ c. where_passed t x.checks done (changing (with_client t (x.row c))))
  pub musts : AllByRecursion IsMust x.checks
  pub serial : (c : Client) → (x.row c).serial ≡ c.serial
  pub user : (c : Client) → (x.row c).user ≡ c.user
  pub keys : (c : Client) → (x.row c).keys ≡ c.keys
  -- the page shows no other window, and the same window is in focus
  pub focus : (c : Client) → focused (x.row c) ≡ focused c
  pub shows : (has : ℕ → Bool) (c : Client) → AllByRecursion (Shows has) c.layout.shown
      → AllByRecursion (Shows has) (x.row c).layout.shown
  -- what was delivered is forgotten if the terminal has another size
  pub delivered : (c : Client) → c.serial ≡ x.client
      → (x.row c).delivered ≡ (if is_resize event done c.serial then [] else c.delivered)
  pub others : (n : ℕ) → (x.client == n) ≡ false → is_resize event done n ≡ false
  -- the draws make no difference to the rest of the row
  pub drawn : (keeps : Bool) (c : Client) → x.row (undrawn keeps c) ≡ undrawn keeps (x.row c)

-- a page that gets too small keeps the region in focus
focus_alone : (o : Option Shown)
    → option_and_then (λ (s : Shown). s.window) (Some (unwrap_or o empty)) ≡ option_and_then (λ (s : Shown). s.window) o
focus_alone None = refl
focus_alone (Some s) = refl

module _ (c : Client) where
  abbrev page : Bool → Arrangement
  page b = if b then c.layout else kept_alone c.layout

  same_focus : (b : Bool)
      → option_and_then (λ (s : Shown). s.window) (slice_get (page b).shown (page b).focus) ≡ focused c
  same_focus true = refl
  same_focus false = focus_alone (slice_get c.layout.shown c.layout.focus)

  shows_fewer : (has : ℕ → Bool) (b : Bool) → AllByRecursion (Shows has) c.layout.shown
      → AllByRecursion (Shows has) (page b).shown
  shows_fewer has true all = all
  shows_fewer has false all = (get_all (Shows has) c.layout.shown c.layout.focus empty tt all, tt)

resizes : (client rows columns : ℕ) → Changes (Resize client rows columns) (resizing client rows columns)
resizes client rows columns = record {
  happens = λ t. refl;
  musts = (refl, tt);
  serial = λ c. refl;
  user = λ c. refl;
  keys = λ c. refl;
  focus = λ c. same_focus c (has_room c.layout.shape rows columns);
  shows = λ has c all. shows_fewer c has (has_room c.layout.shape rows columns) all;
  delivered = λ c is. sym (ap (λ (b : Bool). if b then [] else c.delivered) (ap (λ n. client == n) is ∙ itself client));
  others = λ n off. off;
  drawn = forgets;
} where
  forgets : (keeps : Bool) (c : Client)
      → resized rows columns (undrawn keeps c) ≡ undrawn keeps (resized rows columns c)
  forgets true c = refl
  forgets false c = refl

pub changes : (event : EventValue) (x : Change) → change_of event ≡ Some x → Changes event x
changes (Resize client rows columns) x is = subst (Changes (Resize client rows columns)) (cc (is))
    (resizes client rows columns)
changes event x is = absurd (cc (is))

-- ---- why an event is refused

-- why an event is refused: for a plain reason, because a check failed, or by its command
pub data Refuses (t : Tables) : EventValue → List Verdict → Refusal → Type 0 where
  plainly : (event : EventValue) (r : Refusal) → is_plain r ≡ true → Refuses t event [] r
  unopened : (user : UserId) (rows columns keep : ℕ) (title : List ℕ) (r : Refusal)
      → first_fault t (open_checks t user rows columns keep title) ≡ Some r
      → Refuses t (Open user rows columns keep title) (verdicts t (open_checks t user rows columns keep title)) r
  unchecked : (user : UserId) (number : Option ℕ) (bytes : List ℕ) (c : Order) (r : Refusal) → is_known t user ≡ true
      → read_line bytes ≡ Ok c → first_fault t (checks t (line_caller t user number) c) ≡ Some r
      → Refuses t (Command user number bytes) (verdicts t (checks t (line_caller t user number) c)) r
  undone : (user : UserId) (number : Option ℕ) (bytes : List ℕ) (c : Order) (r : Refusal) → read_line bytes ≡ Ok c
      → is_plain r ≡ true
      → Refuses t (Command user number bytes) (verdicts t (checks t (line_caller t user number) c)) r

-- ---- what comes of each event

-- the reply for a new window has its serial and its number
abbrev pub made_by : Window → Reply
made_by w = reply_of 0 w.serial w.number None

-- What comes of each event. A law of events is proved for each of these cases; the case of one
-- changed client's row names no event.
pub data Happens (t : Tables) : EventValue → Outcome → Type 0 where
  failed : (event : EventValue) (vs : List Verdict) (r : Refusal) → Refuses t event vs r
      → Happens t event (refused t vs r)
  changed : (event : EventValue) (x : Change) (c : Client) → change_of event ≡ Some x → Changes event x
      → client_at t x.client ≡ Some c → Happens t event (finished t [] done (changing (with_client t (x.row c))))
  attached : (user : UserId) (rows columns : ℕ) → first_fault t (attach_checks t user rows columns) ≡ None
      → Happens t (Attach user rows columns)
      (finished t [] (reply_of 0 t.next_client 0 None) (attaches t (new_client t user rows columns)))
  detached : (client : ℕ) (c : Client) → client_at t client ≡ Some c
      → Happens t (Detach client) (finished t [] done (parts (λ (d : Client). d.serial == client) reason.Detached t))
  keyed : (client : ℕ) (bytes : List ℕ) (c : Client) → client_at t client ≡ Some c
      → Happens t (Keys client bytes) (keys_outcome t c (take (taken c.keys bytes) bytes))
  obeyed : (user : UserId) (number : Option ℕ) (bytes : List ℕ) (c : Order) (d : Deed) → is_known t user ≡ true
      → read_line bytes ≡ Ok c → first_fault t (checks t (line_caller t user number) c) ≡ None
      → does t (line_caller t user number) c ≡ Ok d
      → Happens t (Command user number bytes)
      (finished t (verdicts t (checks t (line_caller t user number) c)) (reply_of 0 0 0 d.lists) d)
  opened : (user : UserId) (rows columns keep : ℕ) (title : List ℕ)
      → first_fault t (open_checks t user rows columns keep title) ≡ None
      → Happens t (Open user rows columns keep title)
      (finished t (verdicts t (open_checks t user rows columns keep title))
      (made_by (new_window t rows columns keep title)) (opens t user (new_window t rows columns keep title)))
  wrote : (window : ℕ) (bytes : List ℕ) (w : Window) → window_at t window ≡ Some w
      → Happens t (Output window bytes) (finished t [] done (outputs t w bytes))
  closed : (window : ℕ) (w : Window) → window_at t window ≡ Some w
      → Happens t (Closed window) (finished t [] done (closes (λ (v : Window). v.serial == window) reason.Detached t))
  drew : (client : ℕ) (c : Client) → client_at t client ≡ Some c
      → Happens t (Draw client) (finished t [] done (changing t))

module _ (t : Tables) where
  plain : (event : EventValue) (r : Refusal) → is_plain r ≡ true → Happens t event (refused t [] r)
  plain event r is = failed event [] r (plainly event r is)

  nowhere : (event : EventValue) → Happens t event (refused t [] NoWindow)
  nowhere event = plain event NoWindow refl

  own_refusal : (k : Caller) (c : Order) (r : Refusal) → does t k c ≡ Err r → is_plain r ≡ true
  own_refusal k c r is = subst (Either (λ d. Unit {0})) is (own t k c)

  module _ (user : UserId) (number : Option ℕ) (bytes : List ℕ) (known : is_known t user ≡ true) where
    abbrev k : Caller
    k = line_caller t user number

    abbrev IsLine : Outcome → Type 0
    IsLine o = Happens t (Command user number bytes) o

    ruled : (c : Order) (o : Option Refusal) → read_line bytes ≡ Ok c → first_fault t (checks t k c) ≡ o
        → IsLine
        (answered t (verdicts t (checks t k c)) (elim o as (λ _. Answer) [ Some r ↦ Err r | None ↦ does t k c ]))
    ruled c (Some r) read is = failed (Command user number bytes) (verdicts t (checks t k c)) r
        (unchecked user number bytes c r known read is)
    ruled c None read is =
        by_answer IsLine t (verdicts t (checks t k c)) (does t k c)
        (λ r at. failed (Command user number bytes) (verdicts t (checks t k c)) r
        (undone user number bytes c r read (own_refusal k c r at)))
        (λ d at. obeyed user number bytes c d known read is at)

    line_happens : (r : Result Order ParseFault) → read_line bytes ≡ r → IsLine (commanded t (line_ruling t k r))
    line_happens (Err f) read = plain (Command user number bytes) (Line f) refl
    line_happens (Ok c) read = ruled c (first_fault t (checks t k c)) read refl

  command_happens : (user : UserId) (number : Option ℕ) (bytes : List ℕ) (known : Bool) → is_known t user ≡ known
      → Happens t (Command user number bytes)
      (if known then commanded t (line_ruling t (line_caller t user number) (read_line bytes)) else refused t []
      UnknownUser)
  command_happens user number bytes false is = plain (Command user number bytes) UnknownUser refl
  command_happens user number bytes true is = line_happens user number bytes is (read_line bytes) refl

  change_happens : (event : EventValue) (x : Change) → change_of event ≡ Some x → Happens t event (outcome t event)
  change_happens event x is =
      let f : Changes event x = changes event x is in
      subst (Happens t event) (sym (f.happens t))
      (found (Happens t event) t (λ c. where_passed t x.checks done (changing (with_client t (x.row c))))
      (client_at t x.client) (nowhere event)
      (λ c at. where_musts (Happens t event) t x.checks done (changing (with_client t (x.row c))) f.musts (plain event)
      (λ none. changed event x c is f at)))

  pub happens : (event : EventValue) → Happens t event (outcome t event)
  happens (Attach user rows columns) =
      where_musts (Happens t (Attach user rows columns)) t (attach_checks t user rows columns)
      (reply_of 0 t.next_client 0 None) (attaches t (new_client t user rows columns))
      (refl, (refl, (refl, (refl, tt))))
      (plain (Attach user rows columns)) (attached user rows columns)
  happens (Detach client) = found (Happens t (Detach client)) t
      (λ (c : Client). finished t [] done (parts (λ d. d.serial == client) reason.Detached t)) (client_at t client)
      (nowhere (Detach client)) (detached client)
  happens (Keys client bytes) = found (Happens t (Keys client bytes)) t
      (λ c. keys_outcome t c (take (taken c.keys bytes) bytes)) (client_at t client) (nowhere (Keys client bytes))
      (keyed client bytes)
  happens (Command user number bytes) = command_happens user number bytes (is_known t user) refl
  happens (Open user rows columns keep title) =
      let w : Window = new_window t rows columns keep title in
      let cs : List Check = open_checks t user rows columns keep title in
      passed (Happens t (Open user rows columns keep title)) t (verdicts t cs) (first_fault t cs) (made_by w)
      (opens t user w)
      (λ r is. failed (Open user rows columns keep title) (verdicts t cs) r
      (unopened user rows columns keep title r is)) (opened user rows columns keep title)
  happens (Output window bytes) = found (Happens t (Output window bytes)) t
      (λ w. finished t [] done (outputs t w bytes)) (window_at t window) (nowhere (Output window bytes))
      (wrote window bytes)
  happens (Closed window) = found (Happens t (Closed window)) t
      (λ (w : Window). finished t [] done (closes (λ v. v.serial == window) reason.Detached t)) (window_at t window)
      (nowhere (Closed window)) (closed window)
  happens (Draw client) = found (Happens t (Draw client)) t (λ (c : Client). finished t [] done (changing t))
      (client_at t client) (nowhere (Draw client)) (drew client)
  happens event = change_happens event _ refl

-- ---- how a step ends

-- a step is refused, or its deed is done
pub data Ends (t : Tables) : Outcome → Type 0 where
  refuses : (vs : List Verdict) (r : Refusal) → Ends t (refused t vs r)
  does_it : (vs : List Verdict) (done : Done) (d : Deed) → Ends t (finished t vs (Ok done) d)

keyed_end : (t : Tables) (c : Client) (bytes : List ℕ) → Ends t (keys_outcome t c bytes)
keyed_end t c bytes =
    let given : List Item = items_behind c.keys bytes in
    let d : Client = reading bytes c in
    let typing : Deed = types (with_client t d) d (typed_bytes given) in
    let order : Ordered = ordered typing.tables d (command_item given) in
    does_it _ _ (record order.deed { effects = typing.effects ++ unsaid typing.effects order.deed.effects })

end_of : (t : Tables) (event : EventValue) (o : Outcome) → Happens t event o → Ends t o
end_of t _ _ (failed event vs r why) = refuses vs r
end_of t _ _ (changed event x c is f at) = does_it _ _ (changing (with_client t (x.row c)))
end_of t _ _ (attached user rows columns passes) = does_it _ _ (attaches t (new_client t user rows columns))
end_of t _ _ (detached client c at) = does_it _ _ (parts (λ d. d.serial == client) reason.Detached t)
end_of t _ _ (keyed client bytes c at) = keyed_end t c (take (taken c.keys bytes) bytes)
end_of t _ _ (obeyed user number bytes c d known read passes is) = does_it _ _ d
end_of t _ _ (opened user rows columns keep title passes) = does_it _ _
    (opens t user (new_window t rows columns keep title))
end_of t _ _ (wrote window bytes w at) = does_it _ _ (outputs t w bytes)
end_of t _ _ (closed window w at) = does_it _ _ (closes (λ v. v.serial == window) reason.Detached t)
end_of t _ _ (drew client c at) = does_it _ _ (changing t)

pub ends : (t : Tables) (event : EventValue) → Ends t (outcome t event)
ends t event = end_of t event (outcome t event) (happens t event)

-- ---- events of which no effect comes

abbrev pub is_quiet : EventValue → Bool
is_quiet (Detach client) = false
is_quiet (Keys client bytes) = false
is_quiet (Command user number bytes) = false
is_quiet (Output window bytes) = false
is_quiet (Closed window) = false
is_quiet event = true

makes_none : (t : Tables) (event : EventValue) (o : Outcome) → Happens t event o → is_quiet event ≡ true
    → o.effects ≡ []
makes_none t _ _ (failed event vs r why) is = refl
makes_none t _ _ (changed event x c one f at) is = refl
makes_none t _ _ (attached user rows columns passes) is = refl
makes_none t _ _ (opened user rows columns keep title passes) is = refl
makes_none t _ _ (drew client c at) is = refl
makes_none t _ _ h is = absurd (cc (is))

pub quiet : (t : Tables) (event : EventValue) → is_quiet event ≡ true → (outcome t event).effects ≡ []
quiet t event is = makes_none t event (outcome t event) (happens t event) is

-- the events that leave the windows unchanged
abbrev pub leaves_windows : EventValue → Bool
leaves_windows (Keys client bytes) = false
leaves_windows (Command user number bytes) = false
leaves_windows (Open user rows columns keep title) = false
leaves_windows (Output window bytes) = false
leaves_windows (Closed window) = false
leaves_windows event = true

leaves_all : (t : Tables) (event : EventValue) (o : Outcome) → Happens t event o → leaves_windows event ≡ true
    → o.tables.windows ≡ t.windows
leaves_all t _ _ (failed event vs r why) is = refl
leaves_all t _ _ (changed event x c one f at) is = refl
leaves_all t _ _ (attached user rows columns passes) is = refl
leaves_all t _ _ (detached client c at) is = refl
leaves_all t _ _ (drew client c at) is = refl
leaves_all t _ _ h is = absurd (cc (is))

pub same_windows : (t : Tables) (event : EventValue) → leaves_windows event ≡ true
    → (outcome t event).tables.windows ≡ t.windows
same_windows t event is = leaves_all t event (outcome t event) (happens t event) is
