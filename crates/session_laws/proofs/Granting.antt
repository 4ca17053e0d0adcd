-- A command acts exactly if x is granted.
use Rattle.session_laws.proofs.Vocabulary.{◌≡◌, ℕ, Bool, true, false, not, List, [], ◌∷◌, ◌++◌, Option, Some, None, Ok}
use Rattle.session_laws.proofs.Vocabulary.{Err, Result, refl, ap, sym, ◌∙◌, arith, subst, if◌then◌else◌, ◌==◌, ◌||◌}
use Rattle.session_laws.proofs.Vocabulary.{take, AllByRecursion, option_map, option_map_or, nat_tests, UserId, Act}
use Rattle.session_laws.proofs.Vocabulary.{Write, Execute, followed_by, Order, name_of, ParseFault, Item, bound, line}
use Rattle.session_laws.proofs.Vocabulary.{Check, right, unlocked, must, Needs, Effect, Input, StatusMessage, Text}
use Rattle.session_laws.proofs.Vocabulary.{Refusal, EntryDenied, NoWindow, NotMultiuser, UnknownUser, Verdict}
use Rattle.session_laws.proofs.Vocabulary.{row_serial, all_append, all_filter, all_weaken, and_first, and_second}
use Rattle.session_laws.proofs.Vocabulary.{contradicts, passes, refusal_of, first_fault, verdicts, checks}
use Rattle.session_laws.proofs.Vocabulary.{window_checks, where_needed, typing_checks, does, ruling, Answer, Deed}
use Rattle.session_laws.proofs.Vocabulary.{changing, hearing, lock_denial, types, says, told, keyed, ordered, by_line}
use Rattle.session_laws.proofs.Vocabulary.{line_ruling, reading, message_of, answered, commanded, keys_outcome, unsaid}
use Rattle.session_laws.proofs.Vocabulary.{outcome, refused, Outcome, left_acts, has_x, has_x_on, Given, with_order}
use Rattle.session_laws.proofs.Vocabulary.{order_in, ok_of, commands_of, typed_bytes, command_item, taken, step_items}
use Rattle.session_laws.proofs.Vocabulary.{Caller, caller_of, line_caller, read_line, needs, wants_x, reply_wants_x}
use Rattle.session_laws.proofs.Vocabulary.{OnlyRead, is_answer_to, ActsAsGranted, CommandsAct, may_in, holder_in}
use Rattle.session_laws.proofs.Vocabulary.{IsStep, after, is_known, Tables, Window, Client, client_at, with_client}
use Rattle.session_laws.proofs.Vocabulary.{focused_window, text_of, EventValue, Keys, Command, Draw, Reply, Entry}
use Rattle.std.specs.Option.{is_some}
use Rattle.acl.specs.declared.act.Object.TheVariants as object
use Rattle.session_laws.proofs.Doing.{is_plain}
use Rattle.session_laws.proofs.Shapes.{own}
use Rattle.session_laws.proofs.Unread.{read_row, row_at, typing_told, nobody_left}
use Rattle.session_laws.proofs.Denying.{OnFault, MatchAnswer, Each, on_fault, ruled_answer}
use Rattle.session_laws.proofs.Passing.{passed_has_x}

-- ---- a command with x isn't refused for a missing x

abbrev NotX : Refusal → Type 0
NotX r = wants_x r ≡ false

each_of : (t : Tables) (b : Bool) (cs : List Check) → Each t NotX cs → Each t NotX (where_needed b cs)
each_of t true cs all = all
each_of t false cs all = tt

lock_other : (t : Tables) (w : ℕ) (o : Option UserId) → wants_x (lock_denial t w o) ≡ false
lock_other t w None = refl
lock_other t w (Some u) = refl

window_granted : (t : Tables) (user : UserId) (n : Needs) (b : Bool) (o : Option Window)
    → (not b || has_x_on t user o) ≡ true
    → Each t NotX (where_needed b (window_checks user n (option_map (λ (w : Window). w.serial) o)))
window_granted t user n false o is = tt
window_granted t user n true None is = absurd (cc (is))
window_granted t user n true (Some w) is = (
  contradicts (may_in t user Execute (object.Window w.serial)) is,
  all_append (λ c. passes t c ≡ false → NotX (refusal_of t c))
      (where_needed n.write (right user Write (object.Window w.serial) ∷ []))
      (where_needed n.lock (unlocked user w.serial ∷ []))
      (each_of t n.write (right user Write (object.Window w.serial) ∷ []) ((λ is. refl), tt))
      (each_of t n.lock (unlocked user w.serial ∷ []) ((λ is. lock_other t w.serial (holder_in t w.serial)), tt)),
)

checks_granted : (t : Tables) (k : Caller) (c : Order) → has_x t (record { caller = k; order = c }) ≡ true
    → Each t NotX (checks t k c)
checks_granted t k c has =
    let n : Needs = needs c in
    let for_many : List Check = must t.is_multiuser NotMultiuser ∷ [] in
    let for_client : List Check = must (is_some k.client) NoWindow ∷ [] in
    let last : List Check = where_needed n.window
    (window_checks k.user n (option_map (λ (w : Window). w.serial) k.window)) in
    let itself : Bool = may_in t k.user Execute (object.Command (name_of c)) in
    let there : Bool = not n.window || has_x_on t k.user k.window in (
      contradicts itself (and_first itself there has),
      all_append (λ c. passes t c ≡ false → NotX (refusal_of t c)) (where_needed n.multiuser for_many)
          (where_needed n.client for_client ++ last) (each_of t n.multiuser for_many ((λ is. refl), tt))
          (all_append (λ c. passes t c ≡ false → NotX (refusal_of t c)) (where_needed n.client for_client) last
          (each_of t n.client for_client ((λ is. refl), tt))
          (window_granted t k.user n n.window k.window (and_second itself there has))),
    )

plain_other : (r : Refusal) → is_plain r ≡ true → wants_x r ≡ false
plain_other (EntryDenied d) is = absurd (cc (is))
plain_other _ is = refl

answered_other : (t : Tables) (vs : List Verdict) (a : Answer) → MatchAnswer NotX (λ d. Unit {0}) a
    → reply_wants_x (answered t vs a).reply ≡ false
answered_other t vs (Ok d) is = refl
answered_other t vs (Err r) is = is

-- ---- outcomes

pub record Acts (t : Tables) (event : EventValue) (o : Outcome) (g : Given) : Type 0 where
  pub granted : has_x t g ≡ true → reply_wants_x o.reply ≡ false
  pub acts : has_x t g ≡ false → o.acts ≡ []
  pub tables : has_x t g ≡ false → OnlyRead t o.tables
  pub effects : has_x t g ≡ false → AllByRecursion (λ f. is_answer_to event f ≡ true) o.effects

pub same_tables : (t : Tables) → OnlyRead t t
same_tables t = record {
  owner = refl;
  edition = refl;
  next_window = refl;
  next_client = refl;
  acts = refl;
  multiuser = refl;
  windows =
      refl;
  clients = refl;
}

command_acts : (t : Tables) (event : EventValue) (k : Caller) (c : Order)
    → Acts t event (commanded t (ruling t k c)) (record { caller = k; order = c })
command_acts t event k c = on (first_fault t (checks t k c)) refl
    (λ has. on_fault t NotX (checks t k c) (checks_granted t k c has)) where
      on : (o : Option Refusal) → first_fault t (checks t k c) ≡ o
          → (has_x t (record { caller = k; order = c }) ≡ true → OnFault NotX o)
          → Acts t event
          (answered t (verdicts t (checks t k c)) (elim o as (λ _. Answer) [ Some r ↦ Err r | None ↦ does t k c ]))
          (record { caller = k; order = c })
      on (Some r) is other = record
          { granted = λ has. other has; acts = λ lacks. refl; tables = λ lacks. same_tables t; effects = λ lacks. tt }
      on None is other = let has : has_x t (record { caller = k; order = c }) ≡ true = passed_has_x t k c is in record {
        granted = λ _. answered_other t (verdicts t (checks t k c)) (does t k c)
            (ruled_answer NotX (λ d. Unit {0}) None (does t k c) tt plain_other (λ none. own t k c));
        acts = λ lacks. contradicts (has_x t (record { caller = k; order = c })) has lacks;
        tables = λ lacks. contradicts (has_x t (record { caller = k; order = c })) has lacks;
        effects = λ lacks. contradicts (has_x t (record { caller = k; order = c })) has lacks;
      }

line_acts : (t : Tables) (event : EventValue) (k : Caller) (b : Bool) (r : Result Order ParseFault)
    → AllByRecursion (Acts t event (if b then commanded t (line_ruling t k r) else refused t [] UnknownUser))
    (if b then with_order k (ok_of r) else [])
line_acts t event k false r = tt
line_acts t event k true (Err f) = tt
line_acts t event k true (Ok c) = (command_acts t event k c, tt)

-- a message changes nothing else of the tables
pub told_read : (t v : Tables) (client : ℕ) (m : StatusMessage) → OnlyRead t v → OnlyRead t (told v client m)
told_read t v client m all = on (client_at v client) refl where
  on : (o : Option Client) → client_at v client ≡ o
      → OnlyRead t (elim o as (λ _. Tables) [ None ↦ v | Some c ↦ with_client v (hearing m c) ])
  on None is = all
  on (Some c) is = record {
    owner = all.owner;
    edition = all.edition;
    acts = all.acts;
    multiuser = all.multiuser;
    windows = all.windows;
    clients = read_row v.clients c.serial c (hearing m c) (row_at v client c is) refl ∙ all.clients;
    next_window = all.next_window;
    next_client = all.next_client;
  }

-- ---- keys

pub record Refused (t : Tables) (event : EventValue) (d : Deed) : Type 0 where
  pub acts : d.acts ≡ []
  pub tables : OnlyRead t d.tables
  pub effects : AllByRecursion (λ f. is_answer_to event f ≡ true) d.effects

module _ (t : Tables) (client : ℕ) (bytes : List ℕ) (c : Client) (is : client_at t client ≡ Some c) where
  same_client : (c.serial == client) ≡ true
  same_client = let e : c.serial ≡ client = row_serial (λ (x : Client). x.serial) t.clients client c is in grind
      (arith, nat_tests, e)

  order_refused : (cs : List Client) (read : List ℕ) (order : Order) → OnlyRead t (record t { clients = cs })
      → has_x t (record { caller = caller_of t c; order = order }) ≡ false
      → Refused t (Keys client bytes) (by_line (record t { clients = cs }) (reading read c) (Ok order)).deed
  order_refused cs read order only lacks = on (first_fault t (checks t (caller_of t c) order)) refl where
    on : (o : Option Refusal) → first_fault t (checks t (caller_of t c) order) ≡ o
        → Refused t (Keys client bytes)
        (keyed (record t { clients = cs }) c.serial (message_of order)
        (elim o as (λ _. Answer)
        [ Some r ↦ Err r | None ↦ does (record t { clients = cs }) (caller_of t c) order ]))
    on (Some r) at = record {
      acts = refl;
      tables = told_read t (record t { clients = cs }) c.serial (Text (text_of r)) only;
      effects =
          (same_client, tt);
    }
    on None at = contradicts (has_x t (record { caller = caller_of t c; order = order }))
        (passed_has_x t (caller_of t c) order at) lacks

  line_refused : (cs : List Client) (read : List ℕ) (r : Result Order ParseFault)
      → OnlyRead t (record t { clients = cs })
      → AllByRecursion
      (λ g. has_x t g ≡ false
      → Refused t (Keys client bytes) (by_line (record t { clients = cs }) (reading read c) r).deed)
      (with_order (caller_of t c) (ok_of r))
  line_refused cs read (Err f) only = tt
  line_refused cs read (Ok order) only = (order_refused cs read order only, tt)

  item_refused : (cs : List Client) (read : List ℕ) (item : Option Item) → OnlyRead t (record t { clients = cs })
      → AllByRecursion
      (λ g. has_x t g ≡ false
      → Refused t (Keys client bytes) (ordered (record t { clients = cs }) (reading read c) item).deed)
      (with_order (caller_of t c) (order_in item))
  item_refused cs read (Some (bound order)) only = (order_refused cs read order only, tt)
  item_refused cs read (Some (line (b ∷ bs))) only = line_refused cs read (read_line (b ∷ bs)) only
  item_refused cs read item only = tt

  types_answer : (u : Tables) (d : Client) (bs : List ℕ) → d.serial ≡ c.serial
      → AllByRecursion (λ f. is_answer_to (Keys client bytes) f ≡ true) (types u d bs).effects
  types_answer u d [] same = tt
  types_answer u d (b ∷ bs) same = on (first_fault u (typing_checks d.user (focused_window u d))) (focused_window u d)
    where
      on : (o : Option Refusal) (f : Option Window)
          → AllByRecursion (λ f. is_answer_to (Keys client bytes) f ≡ true) (elim o as (λ _. Deed) [
            | Some r ↦ says u d.serial (Text (text_of r)) (text_of r)
            | None ↦ record (changing u) { effects = option_map_or (λ (w : Window). Input w.serial (b ∷ bs) ∷ []) f [] }
          ]).effects
      on (Some r) f = (ap (λ n. n == client) same ∙ same_client, tt)
      on None None = tt
      on None (Some w) = (refl, tt)

  keys_acts : AllByRecursion (Acts t (Keys client bytes) (keys_outcome t c (take (taken c.keys bytes) bytes)))
      (with_order (caller_of t c) (order_in (command_item (step_items c bytes))))
  keys_acts =
      let read : List ℕ = take (taken c.keys bytes) bytes in
      let given : List Item = step_items c bytes in
      let item : Option Item = command_item given in
      let d : Client = reading read c in
      let u : Tables = with_client t d in
      let before : Deed = types u d (typed_bytes given) in
      let only : OnlyRead t u = record {
        owner = refl;
        edition = refl;
        next_window = refl;
        next_client = refl;
        acts = refl;
        multiuser = refl;
        windows
            = refl;
        clients = read_row t.clients c.serial c d (row_at t client c is) refl;
      } in
      let refusing : Tables → Given → Type 0 = λ v g. has_x t g ≡ false
      → Refused t (Keys client bytes) (ordered v d item).deed in
      all_weaken (refusing before.tables) (Acts t (Keys client bytes) (keys_outcome t c read))
      (with_order (caller_of t c) (order_in item))
      (λ g on. record {
        granted = λ has. refl;
        acts = λ lacks. ap (λ acts. acts ++ left_acts t.clients (ordered before.tables d item).deed.tables.clients)
            (on lacks).acts
            ∙ nobody_left t.clients (ordered before.tables d item).deed.tables.clients (on lacks).tables.clients;
        tables = λ lacks. record {
          owner = (on lacks).tables.owner;
          acts = ap (followed_by t.acts)
              (ap (λ acts. acts ++ left_acts t.clients (ordered before.tables d item).deed.tables.clients)
              (on lacks).acts
              ∙ nobody_left t.clients (ordered before.tables d item).deed.tables.clients (on lacks).tables.clients);
          edition = (on lacks).tables.edition;
          next_window = (on lacks).tables.next_window;
          next_client = (on lacks).tables.next_client;
          multiuser = (on lacks).tables.multiuser;
          windows = (on lacks).tables.windows;
          clients = (on lacks).tables.clients;
        };
        effects = λ lacks. all_append (λ f. is_answer_to (Keys client bytes) f ≡ true) before.effects
            (unsaid before.effects (ordered before.tables d item).deed.effects)
            (types_answer u d (typed_bytes given) refl)
            (all_filter (λ f. is_answer_to (Keys client bytes) f ≡ true) _ (ordered before.tables d item).deed.effects
            (on lacks).effects);
      })
      (typing_told (λ v. AllByRecursion (refusing v) (with_order (caller_of t c) (order_in item))) u d
      (typed_bytes given) (item_refused u.clients read item only)
      (λ m e at. item_refused (with_client u (hearing m e)).clients read item
      (record {
        owner = refl;
        edition = refl;
        next_window = refl;
        next_client = refl;
        acts = refl;
        multiuser = refl;
        windows
            = refl;
        clients = read_row u.clients e.serial e (hearing m e) (row_at u c.serial e at) refl
            ∙ only.clients;
      })))

acting : (t : Tables) (event : EventValue) → AllByRecursion (Acts t event (outcome t event)) (commands_of t event)
acting t (Keys client bytes) = on (client_at t client) refl where
  on : (o : Option Client) → client_at t client ≡ o
      → AllByRecursion
      (Acts t (Keys client bytes)
      (elim o as (λ _. Outcome)
      [ None ↦ refused t [] NoWindow | Some c ↦ keys_outcome t c (take (taken c.keys bytes) bytes) ]))
      (option_map_or (λ c. with_order (caller_of t c) (order_in (command_item (step_items c bytes)))) o [])
  on None is = tt
  on (Some c) is = keys_acts t client bytes c is
acting t (Command user number bytes) = line_acts t (Command user number bytes) (line_caller t user number)
    (is_known t user) (read_line bytes)
acting t event = tt

entered : (t : Tables) (e : Entry) (effects : e.effects ≡ (outcome t e.event).effects)
    (tables : after t e ≡ (outcome t e.event).tables) → IsStep t e → CommandsAct t e (after t e)
entered t e effects tables step = all_weaken (Acts t e.event (outcome t e.event)) (ActsAsGranted t e (after t e))
    (commands_of t e.event) (λ g a. record {
      granted = λ has. ap reply_wants_x step.reply ∙ a.granted has;
      acts = λ lacks. step.acts ∙ a.acts lacks;
      tables = λ lacks. subst (OnlyRead t) (sym tables) (a.tables lacks);
      effects = λ lacks. subst (λ es. AllByRecursion (λ f. is_answer_to e.event f ≡ true) es) (sym effects)
          (a.effects lacks);
    }) (acting t e.event)

pub commands : (t : Tables) (event : EventValue) (reply : Reply) (acts : List Act) (vs : List Verdict)
    (effects : List Effect)
    → let e : Entry = record { event = event; reply = reply; acts = acts; verdicts = vs; effects = effects } in IsStep t
    e → CommandsAct t e (after t e)
commands t (Draw client) reply acts vs effects step = tt
commands t event reply acts vs effects step = entered t
    (record { event = event; reply = reply; acts = acts; verdicts = vs; effects = effects }) step.effects refl step
