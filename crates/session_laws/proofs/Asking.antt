-- What an event asks for is what its checks ask for, and a refused event names why.
use Rattle.session_laws.proofs.Vocabulary.{◌≡◌, ℕ, Bool, true, false, List, [], ◌∷◌, Option, Some, None, Ok, Err}
use Rattle.session_laws.proofs.Vocabulary.{Result, refl, ap, sym, ◌∙◌, subst, inl, inr, if◌then◌else◌, ◌==◌, option_map}
use Rattle.session_laws.proofs.Vocabulary.{option_map_or, option_and_then, UserId, Bit, Write, Execute, Object, Screen}
use Rattle.session_laws.proofs.Vocabulary.{Order, name_of, ParseFault, Refusal, Verdict, EventValue, Keys, Command}
use Rattle.session_laws.proofs.Vocabulary.{Open, Reply, Tables, Window, Client, row_of, window_at, client_at, focused}
use Rattle.session_laws.proofs.Vocabulary.{focused_window, is_known, with_number, Caller, caller_of, line_caller}
use Rattle.session_laws.proofs.Vocabulary.{read_line, checks, first_fault, typing_checks, step_items, command_item}
use Rattle.session_laws.proofs.Vocabulary.{outcome, Outcome, open_checks, commands_of, keys_typed, typed_by_client}
use Rattle.session_laws.proofs.Vocabulary.{with_order, order_in, ok_of, SomeOf, NamesTruly, Asks, AsksFor, TypesOn}
use Rattle.session_laws.proofs.Vocabulary.{IsWindow, row_serial, itself}
use Rattle.acl.specs.declared.act.Object.TheVariants as object
use Rattle.session_laws.proofs.Doing.{giving}
use Rattle.session_laws.proofs.Outcomes as outcomes
use Rattle.session_laws.proofs.Denying.{OnFault, on_fault, missing, checks_each, typing_each, plain_names, IsAsked}
use Rattle.session_laws.proofs.Denying.{IsAskedOfRow, IsListed}

-- ---- windows that are there

row_listed : (t : Tables) (s : ℕ) (w : Window) → window_at t s ≡ Some w → IsListed t w.serial
row_listed t s w is = (w, ap (window_at t) (row_serial (λ (x : Window). x.serial) t.windows s w is) ∙ is)

numbered_row : (ws : List Window) (n : ℕ) (w : Window) → with_number ws n ≡ Some w → (v : Window)
    × (row_of (λ (x : Window). x.serial) ws w.serial ≡ Some v)
numbered_row [] n w is = absurd (cc (is))
numbered_row (r ∷ ws) n w is = on (r.number == n) is (numbered_row ws n w) where
  self : (m : ℕ) → (if m == m then Some r else row_of (λ (x : Window). x.serial) ws m) ≡ Some r
  self m = ap (λ (b : Bool). if b then Some r else row_of (λ (x : Window). x.serial) ws m) (itself m)

  either : (b : Bool) → (v : Window) × (row_of (λ (x : Window). x.serial) ws w.serial ≡ Some v) → (v : Window)
      × ((if b then Some r else row_of (λ (x : Window). x.serial) ws w.serial) ≡ Some v)
  either true found = (r, refl)
  either false found = found

  on : (b : Bool) → (if b then Some r else with_number ws n) ≡ Some w
      → (with_number ws n ≡ Some w → (v : Window) × (row_of (λ (x : Window). x.serial) ws w.serial ≡ Some v))
      → (v : Window) × (row_of (λ (x : Window). x.serial) (r ∷ ws) w.serial ≡ Some v)
  on true is more = let e : r ≡ w = cc (is) in subst
      (λ (x : Window). (v : Window) × (row_of (λ (y : Window). y.serial) (r ∷ ws) x.serial ≡ Some v)) e
      (r, self r.serial)
  on false is more = either (r.serial == w.serial) (more is)

pub line_listed : (t : Tables) (number : Option ℕ) (w : Window)
    → option_and_then (with_number t.windows) number ≡ Some w → IsListed t w.serial
line_listed t None w is = absurd (cc (is))
line_listed t (Some n) w is = numbered_row t.windows n w is

pub focus_listed : (t : Tables) (o : Option ℕ) (w : Window) → option_and_then (window_at t) o ≡ Some w
    → IsListed t w.serial
focus_listed t None w is = absurd (cc (is))
focus_listed t (Some s) w is = row_listed t s w is

-- ---- what is asked

asked_window : (t : Tables) (asks : UserId → Bit → Object → Type 0) (user : UserId) (client : Option ℕ) (c : Order)
    (o : Option Window)
    → ((bit : Bit) (x : Object) → AsksFor user bit x (giving (record { user = user; client = client; window = o }) c)
    → asks user bit x)
    → ((w : Window) → o ≡ Some w → IsListed t w.serial) → IsAsked t asks user (option_map (λ (w : Window). w.serial) o)
asked_window t asks user client c None into listed = tt
asked_window t asks user client c (Some w) into listed =
    ((λ bit. into bit (object.Window w.serial) (refl, inr refl)), listed w refl)

command_names : (t : Tables) (asks : UserId → Bit → Object → Type 0) (k : Caller) (c : Order)
    → ((bit : Bit) (x : Object) → AsksFor k.user bit x (giving k c) → asks k.user bit x)
    → ((w : Window) → k.window ≡ Some w → IsListed t w.serial)
    → OnFault (NamesTruly t asks) (first_fault t (checks t k c))
command_names t asks k c into listed =
    on_fault t (NamesTruly t asks) (checks t k c)
    (checks_each t asks k c (into Execute (object.Command (name_of c)) (refl, inl (refl, refl)))
    (asked_window t asks k.user k.client c k.window into listed))

-- by a command line
pub line_names : (t : Tables) (user : UserId) (number : Option ℕ) (bytes : List ℕ) (c : Order)
    → commands_of t (Command user number bytes) ≡ giving (line_caller t user number) c ∷ []
    → OnFault (NamesTruly t (Asks t (Command user number bytes)))
    (first_fault t (checks t (line_caller t user number) c))
line_names t user number bytes c is =
    command_names t (Asks t (Command user number bytes)) (line_caller t user number) c
    (λ bit x asks. inl (subst (λ gs. SomeOf (AsksFor user bit x) gs) (sym is) (inl asks))) (line_listed t number)

pub line_given : (t : Tables) (user : UserId) (number : Option ℕ) (bytes : List ℕ) (b : Bool)
    (r : Result Order ParseFault) → is_known t user ≡ b → read_line bytes ≡ r
    → commands_of t (Command user number bytes) ≡ (if b then with_order (line_caller t user number) (ok_of r) else [])
line_given t user number bytes b r known read =
    ap (λ x. if x then with_order (line_caller t user number) (ok_of (read_line bytes)) else []) known
    ∙ ap (λ x. if b then with_order (line_caller t user number) (ok_of x) else []) read

-- by keys
pub keys_given : (t : Tables) (client : ℕ) (bytes : List ℕ) (c : Client) → client_at t client ≡ Some c
    → commands_of t (Keys client bytes) ≡ with_order (caller_of t c) (order_in (command_item (step_items c bytes)))
keys_given t client bytes c is =
    ap (λ o. option_map_or (λ c. with_order (caller_of t c) (order_in (command_item (step_items c bytes)))) o []) is

typed_given : (t : Tables) (client : ℕ) (bytes : List ℕ) (c : Client) → client_at t client ≡ Some c
    → keys_typed t (Keys client bytes) ≡ typed_by_client t c bytes ∷ []
typed_given t client bytes c is = ap (λ o. option_map_or (λ c. typed_by_client t c bytes ∷ []) o []) is

row_asked : (t : Tables) (client : ℕ) (bytes : List ℕ) (c : Client) → client_at t client ≡ Some c → (o : Option Window)
    → focused_window t c ≡ o
    → IsAskedOfRow t (Asks t (Keys client bytes)) c.user o
row_asked t client bytes c is None at = tt
row_asked t client bytes c is (Some v) at = (
  inr (subst (λ ts. SomeOf (TypesOn c.user Write (object.Window v.serial)) ts) (sym (typed_given t client bytes c is))
      (inl (refl, refl, subst (λ x. IsWindow x (object.Window v.serial)) (sym at) refl))),
  focus_listed t (focused c) v at,
)

pub typing_names : (t : Tables) (client : ℕ) (bytes : List ℕ) (c : Client) → client_at t client ≡ Some c
    → OnFault (NamesTruly t (Asks t (Keys client bytes))) (first_fault t (typing_checks c.user (focused_window t c)))
typing_names t client bytes c is =
    on_fault t (NamesTruly t (Asks t (Keys client bytes))) (typing_checks c.user (focused_window t c))
    (typing_each t (Asks t (Keys client bytes)) c.user (focused_window t c)
    (row_asked t client bytes c is (focused_window t c) refl))

pub order_names : (t : Tables) (client : ℕ) (bytes : List ℕ) (c : Client) (order : Order)
    → commands_of t (Keys client bytes) ≡ giving (caller_of t c) order ∷ []
    → OnFault (NamesTruly t (Asks t (Keys client bytes))) (first_fault t (checks t (caller_of t c) order))
order_names t client bytes c order given =
    command_names t (Asks t (Keys client bytes)) (caller_of t c) order
    (λ bit x asks. inl (subst (λ gs. SomeOf (AsksFor c.user bit x) gs) (sym given) (inl asks)))
    (focus_listed t (focused c))

-- ---- replies

abbrev pub ReplyIs : (Refusal → Type 0) → Reply → Type 0
ReplyIs P (Err r) = P r
ReplyIs P (Ok d) = Unit {0}

-- a refusal names what prevents the event
why : (t : Tables) (event : EventValue) (vs : List Verdict) (r : Refusal) → outcomes.Refuses t event vs r
    → NamesTruly t (Asks t event) r
why t _ _ _ (outcomes.plainly event r is) = plain_names t (Asks t event) r is
why t _ _ _ (outcomes.unopened user rows columns keep title r is) =
    let asks : UserId → Bit → Object → Type 0 = Asks t (Open user rows columns keep title) in
    subst (OnFault (NamesTruly t asks)) is
    (on_fault t (NamesTruly t asks) (open_checks t user rows columns keep title) (
      (λ is. tt),
      (
        missing t asks user Execute (object.Command Screen) (refl, refl, refl) refl,
        ((λ is. tt), ((λ is. tt), ((λ is. tt), ((λ is. tt), tt)))),
      ),
    ))
why t _ _ _ (outcomes.unchecked user number bytes c r known read is) =
    subst (OnFault (NamesTruly t (Asks t (Command user number bytes)))) is
    (line_names t user number bytes c (line_given t user number bytes true (Ok c) known read))
why t _ _ _ (outcomes.undone user number bytes c r read is) = plain_names t (Asks t (Command user number bytes)) r is

replied : (t : Tables) (event : EventValue) (o : Outcome) → outcomes.Happens t event o
    → ReplyIs (NamesTruly t (Asks t event)) o.reply
replied t _ _ (outcomes.failed event vs r is) = why t event vs r is
replied t _ _ h = tt

pub replies : (t : Tables) (event : EventValue) → ReplyIs (NamesTruly t (Asks t event)) (outcome t event).reply
replies t event = replied t event (outcome t event) (outcomes.happens t event)
