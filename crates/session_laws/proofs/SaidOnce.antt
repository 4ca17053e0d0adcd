-- No client is told the same text twice in a step.
use Rattle.session_laws.proofs.Vocabulary.{◌≡◌, ℕ, ◌<◌, Bool, true, false, not, List, [], ◌∷◌, ◌++◌, Option, Some, None}
use Rattle.session_laws.proofs.Vocabulary.{Ok, Err, Result, refl, ap, sym, ◌∙◌, subst, map, filter, length, take, arith}
use Rattle.session_laws.proofs.Vocabulary.{⊎_elim, if◌then◌else◌, ◌==◌, ◌||◌, MatchOption, codes, AllByRecursion}
use Rattle.session_laws.proofs.Vocabulary.{list_any, bytes_eq, bytes_eq-Decides, nat_tests, Order, ParseFault, Item}
use Rattle.session_laws.proofs.Vocabulary.{bound, line, reads, Effect, Input, Deliver, Say, Gone, StatusMessage}
use Rattle.session_laws.proofs.Vocabulary.{Refusal, EventValue, Draw, Entry, Tables, Window, Client, client_at}
use Rattle.session_laws.proofs.Vocabulary.{with_client, focused_window, terminal_of, Caller, caller_of, line_caller}
use Rattle.session_laws.proofs.Vocabulary.{read_line, checks, first_fault, typing_checks, Deed, Answer, changing, tells}
use Rattle.session_laws.proofs.Vocabulary.{does, typed_bytes, command_item, taken, step_items, types, says_why}
use Rattle.session_laws.proofs.Vocabulary.{input_in, ordered, keyed, with_listed, message_of, reading, unsaid}
use Rattle.session_laws.proofs.Vocabulary.{says_same, keys_outcome, outcome, Outcome, IsStep, HasEffects, IsDraw}
use Rattle.session_laws.proofs.Vocabulary.{DrawsWhereNeeded, Rises, AreSound, client_serials, SomeOf, IsDoneBy}
use Rattle.session_laws.proofs.Vocabulary.{IsSaidOnce, AreSaidOnce, all_of, all_weaken, all_append, all_filter}
use Rattle.session_laws.proofs.Vocabulary.{all_passed, members, both_true, itself, contradicts}
use Rattle.acl.specs.Names.{name_of}
use Rattle.command_lang.specs.declared.command.Command.TheVariants as command
use Rattle.session_model.specs.declared.event.Peer.TheVariants as peer
use Rattle.session_model.specs.declared.event.Reason.TheVariants as reason
use Rattle.session_model.specs.Answering as answering
use Rattle.session_laws.proofs.Inputs.{is_say}
use Rattle.session_laws.proofs.Doing.{Either, giving}
use Rattle.session_laws.proofs.CommandEffects.{HasDone, done_by}
use Rattle.session_laws.proofs.SoundMoves.{client_firsts, firsts}
use Rattle.session_laws.proofs.Settling.{ids_same}
use Rattle.session_laws.proofs.Unread.{typing_clients}
use Rattle.session_laws.proofs.Outcomes as outcomes

-- ---- lists

once_append : (f : Effect) (xs ys : List Effect) → IsSaidOnce f xs → IsSaidOnce f ys → IsSaidOnce f (xs ++ ys)
once_append (Say to said) xs ys p q = all_append (λ g. g ≡ Say to said → ⊥) xs ys p q
once_append f xs ys p q = tt

once_filter : (f : Effect) (p : Effect → Bool) (xs : List Effect) → IsSaidOnce f xs → IsSaidOnce f (filter p xs)
once_filter (Say to said) p xs all = all_filter (λ g. g ≡ Say to said → ⊥) p xs all
once_filter f p xs all = tt

said_append : (xs ys : List Effect) → AreSaidOnce xs → AreSaidOnce ys → AllByRecursion (λ x. IsSaidOnce x ys) xs
    → AreSaidOnce (xs ++ ys)
said_append [] ys p q apart = q
said_append (x ∷ xs) ys p q apart = (once_append x xs ys p.0 apart.0, said_append xs ys p.1 q apart.1)

said_filter : (p : Effect → Bool) (xs : List Effect) → AreSaidOnce xs → AreSaidOnce (filter p xs)
said_filter p [] all = tt
said_filter p (x ∷ xs) all = on (p x) (said_filter p xs all.1) where
  on : (b : Bool) → AreSaidOnce (filter p xs) → AreSaidOnce (if b then x ∷ filter p xs else filter p xs)
  on true rest = (once_filter x p xs all.0, rest)
  on false rest = rest

-- a list in which nothing is said
silent : (xs : List Effect) → AllByRecursion (λ f. is_say f ≡ false) xs → AreSaidOnce xs
silent [] all = tt
silent (x ∷ xs) all = (one x all.0, silent xs all.1) where
  one : (f : Effect) → is_say f ≡ false → IsSaidOnce f xs
  one (Say to said) is = absurd (cc (is))
  one f is = tt

-- a list of one effect
single : (f : Effect) → AreSaidOnce (f ∷ [])
single (Say to said) = (tt, tt)
single f = (tt, tt)

-- ---- what was said before in the step isn't said again

any_true : (p : Effect → Bool) (xs : List Effect) (x : Effect) → SomeOf (λ y. y ≡ x) xs → p x ≡ true
    → list_any p xs ≡ true
any_true p [] x some is = absurd some
any_true p (y ∷ xs) x some is = ⊎_elim (λ (e : y ≡ x). here (ap p e ∙ is))
    (λ later. there (p y) (any_true p xs x later is)) some where
      here : p y ≡ true → (p y || list_any p xs) ≡ true
      here e = ap (λ b. b || list_any p xs) e

      there : (b : Bool) → list_any p xs ≡ true → (b || list_any p xs) ≡ true
      there true e = refl
      there false e = e

same_itself : (to : ℕ) (said : List ℕ) → says_same (Say to said) (Say to said) ≡ true
same_itself to said = both_true (to == to) (bytes_eq said said) (itself to) ((bytes_eq-Decides said said).1 refl)

negated : (b : Bool) → not b ≡ true → b ≡ false
negated true is = absurd (cc (is))
negated false is = refl

unsaid_apart : (said es : List Effect) → AllByRecursion (λ s. IsSaidOnce s (unsaid said es)) said
unsaid_apart said es = all_weaken (λ s. SomeOf (λ y. y ≡ s) said) (λ s. IsSaidOnce s (unsaid said es)) said one
    (members said) where
      one : (s : Effect) → SomeOf (λ y. y ≡ s) said → IsSaidOnce s (unsaid said es)
      one (Say to text) some =
          all_passed (λ g. g ≡ Say to text → ⊥) (λ g. not (list_any (says_same g) said)) es
          (all_of (λ g. not (list_any (says_same g) said) ≡ true → g ≡ Say to text → ⊥) es
          (λ g passes same. contradicts (list_any (says_same g) said)
          (any_true (says_same g) said (Say to text) some
          (ap (λ x. says_same x (Say to text)) same ∙ same_itself to text))
          (negated (list_any (says_same g) said) passes)))
      one f some = tt

pub unsaid_once : (said es : List Effect) → AreSaidOnce said → AreSaidOnce es → AreSaidOnce (said ++ unsaid said es)
unsaid_once said es p q = said_append said (unsaid said es) p (said_filter _ es q) (unsaid_apart said es)

-- ---- wall tells each client once

later_clients : (n : ℕ) (text : List ℕ) (cs : List Client) → AllByRecursion (λ m. n < m) (client_serials cs)
    → AllByRecursion (λ g. g ≡ Say n text → ⊥) (map (λ (c : Client). Say c.serial text) cs)
later_clients n text [] all = tt
later_clients n text (c ∷ cs) all = (other, later_clients n text cs all.1) where
  other : Say c.serial text ≡ Say n text → ⊥
  other same = let lt : n < c.serial = all.0 in let e : c.serial ≡ n = cc (same) in absurd
      (grind (arith, nat_tests, lt, e))

wall_once : (text : List ℕ) (cs : List Client) (next : ℕ) → Rises (client_serials cs) next
    → AreSaidOnce (map (λ (c : Client). Say c.serial text) cs)
wall_once text [] next all = tt
wall_once text (c ∷ cs) next all = (later_clients c.serial text cs all.1, wall_once text cs next all.2)

-- ---- commands

abbrev is_wall : Order → Bool
is_wall (command.Wall text) = true
is_wall c = false

mute_done : (t : Tables) (k : Caller) (c : Order) → is_wall c ≡ false → (f : Effect) → IsDoneBy t (giving k c) c f
    → is_say f ≡ false
mute_done t k (command.Wall text) other f is = absurd (cc (other))
mute_done t k (command.Multiuser true) other (Say to said) is = absurd is
mute_done t k (command.Multiuser false) other (Say to said) is = absurd is
mute_done t k c other (Say to said) is = absurd is
mute_done t k c other f is = refl

-- a deed says each text to a client once, and lists something only if it says nothing
pub record SaysOnce (d : Deed) : Type 0 where
  pub effects : AreSaidOnce d.effects
  pub listed : (client : ℕ) (m : List ℕ → StatusMessage) → AreSaidOnce (with_listed client m d.lists d).effects

quiet_once : (t : Tables) (k : Caller) (c : Order) (d : Deed) → is_wall c ≡ false → HasDone t k c d → SaysOnce d
quiet_once t k c d other is = record {
  effects = silent d.effects mutes;
  listed = λ client m. on client m d.lists;
} where
  mutes : AllByRecursion (λ f. is_say f ≡ false) d.effects
  mutes = all_weaken (IsDoneBy t (giving k c) c) (λ f. is_say f ≡ false) d.effects (mute_done t k c other) is.effects

  apart : (client : ℕ) (bytes : List ℕ) (f : Effect) → is_say f ≡ false → IsSaidOnce f (Say client bytes ∷ [])
  apart client bytes (Say to said) say = absurd (cc (say))
  apart client bytes f say = tt

  on : (client : ℕ) (m : List ℕ → StatusMessage) (o : Option (List ℕ)) → AreSaidOnce (with_listed client m o d).effects
  on client m None = silent d.effects mutes
  on client m (Some bytes) = said_append d.effects (Say client bytes ∷ []) (silent d.effects mutes) (tt, tt)
      (all_weaken (λ f. is_say f ≡ false) (λ f. IsSaidOnce f (Say client bytes ∷ [])) d.effects (apart client bytes)
      mutes)

told_once : (t : Tables) (text : List ℕ) → Rises (client_serials t.clients) t.next_client → SaysOnce (tells text t)
told_once t text rise = let all : AreSaidOnce (tells text t).effects = wall_once text t.clients t.next_client rise in
    record { effects = all; listed = λ client m. all }

either_once : (t : Tables) (k : Caller) (c : Order) (a : Answer) → is_wall c ≡ false → Either (HasDone t k c) a
    → Either SaysOnce a
either_once t k c (Ok d) other is = quiet_once t k c d other is
either_once t k c (Err r) other is = is

pub says_once : (t : Tables) (k : Caller) (c : Order) → Rises (client_serials t.clients) t.next_client
    → Either SaysOnce (does t k c)
says_once t k (command.Wall text) rise = told_once t (name_of k.user ++ (codes ": " ++ text)) rise
says_once t k c rise = either_once t k c (does t k c) refl (done_by t k c)

-- ---- keys

types_once : (u : Tables) (d : Client) (bytes : List ℕ) → AreSaidOnce (types u d bytes).effects
types_once u d [] = tt
types_once u d (b ∷ bytes) = on (first_fault u (typing_checks d.user (focused_window u d))) (focused_window u d) where
  on : (o : Option Refusal) (f : Option Window) → AreSaidOnce (elim o as (λ _. Deed) [
    | Some r ↦ says_why u d.serial r
    | None ↦ record (changing u) { effects = input_in f (b ∷ bytes) }
  ]).effects
  on (Some r) f = (tt, tt)
  on None None = tt
  on None (Some w) = (tt, tt)

keyed_once : (v : Tables) (client : ℕ) (m : List ℕ → StatusMessage) (a : Answer) → Either SaysOnce a
    → AreSaidOnce (keyed v client m a).effects
keyed_once v client m (Err r) plain = (tt, tt)
keyed_once v client m (Ok d) all = all.listed client m

order_once : (v : Tables) (d : Client) (order : Order) → Rises (client_serials v.clients) v.next_client
    → AreSaidOnce (answering.by_line v d (Ok order)).deed.effects
order_once v d order rise = on (first_fault v (checks v (caller_of v d) order)) where
  on : (o : Option Refusal)
      → AreSaidOnce
      (keyed v d.serial (message_of order)
      (elim o as (λ _. Answer) [ Some r ↦ Err r | None ↦ does v (caller_of v d) order ])).effects
  on (Some r) = (tt, tt)
  on None = keyed_once v d.serial (message_of order) (does v (caller_of v d) order)
      (says_once v (caller_of v d) order rise)

read_once : (v : Tables) (d : Client) (r : Result Order ParseFault) → Rises (client_serials v.clients) v.next_client
    → AreSaidOnce (answering.by_line v d r).deed.effects
read_once v d (Err f) rise = (tt, tt)
read_once v d (Ok order) rise = order_once v d order rise

item_once : (v : Tables) (d : Client) (item : Option Item) → Rises (client_serials v.clients) v.next_client
    → AreSaidOnce (ordered v d item).deed.effects
item_once v d (Some (bound order)) rise = order_once v d order rise
item_once v d (Some (line (b ∷ bs))) rise = read_once v d (read_line (b ∷ bs)) rise
item_once v d item rise = tt

keys_once : (t : Tables) (client : ℕ) (bytes : List ℕ) (c : Client) → client_at t client ≡ Some c → AreSound t
    → AreSaidOnce (keys_outcome t c (take (taken c.keys bytes) bytes)).effects
keys_once t client bytes c is s =
    let read : List ℕ = take (taken c.keys bytes) bytes in
    let given : List Item = step_items c bytes in
    let d : Client = reading read c in
    let before : List Effect = (types (with_client t d) d (typed_bytes given)).effects in
    typing_clients (λ v. AreSaidOnce (before ++ unsaid before (ordered v d (command_item given)).deed.effects)) t client
    c d (typed_bytes given) is refl refl
    (λ cs same. unsaid_once before (ordered (record t { clients = cs }) d (command_item given)).deed.effects
    (types_once (with_client t d) d (typed_bytes given))
    (item_once (record t { clients = cs }) d (command_item given)
    (subst (λ ns. Rises ns t.next_client)
    (client_firsts t.clients ∙ sym (ap firsts (ids_same t cs same)) ∙ sym (client_firsts cs)) s.clients_rise)))

-- ---- events

gone_clients : (cs : List Client) → AreSaidOnce (map (λ (c : Client). Gone (peer.Client c.serial) reason.Detached) cs)
gone_clients [] = tt
gone_clients (c ∷ cs) = (tt, gone_clients cs)

gone_windows : (ws : List Window) → AreSaidOnce (map (λ (w : Window). Gone (peer.Window w.serial) reason.Detached) ws)
gone_windows [] = tt
gone_windows (w ∷ ws) = (tt, gone_windows ws)

input_once : (at : ℕ) (bytes : List ℕ) (b : Bool) → AreSaidOnce (if b then [] else Input at bytes ∷ [])
input_once at bytes true = tt
input_once at bytes false = (tt, tt)

abbrev Once : Outcome → Type 0
Once o = AreSaidOnce o.effects

happened : (t : Tables) (event : EventValue) (o : Outcome) → outcomes.Happens t event o → AreSound t → Once o
happened t _ _ (outcomes.detached client c at) s = gone_clients (filter (λ (d : Client). d.serial == client) t.clients)
happened t _ _ (outcomes.keyed client bytes c at) s = keys_once t client bytes c at s
happened t _ _ (outcomes.obeyed user number bytes c d known read passes is) s =
    (subst (Either SaysOnce) is (says_once t (line_caller t user number) c s.clients_rise)).effects
happened t _ _ (outcomes.wrote window bytes v at) s =
    input_once v.serial (reads (terminal_of v) bytes).reports (length (reads (terminal_of v) bytes).reports == 0)
happened t _ _ (outcomes.closed window v at) s = gone_windows (filter (λ (x : Window). x.serial == window) t.windows)
happened t _ _ h s = tt

once : (t : Tables) (event : EventValue) → AreSound t → Once (outcome t event)
once t event s = happened t event (outcome t event) (outcomes.happens t event) s

drawn_once : (t : Tables) (effects : List Effect) (o : Option Client) → MatchOption o (effects ≡ []) (IsDraw t effects)
    → AreSaidOnce effects
drawn_once t effects None is = subst AreSaidOnce (sym is) tt
drawn_once t effects (Some c) is = on effects is.drawn where
  on : (es : List Effect) → DrawsWhereNeeded t c es → AreSaidOnce es
  on [] none = tt
  on (Deliver to bytes ∷ []) one = (tt, tt)
  on (f ∷ es) other = absurd other

pub step_once : (t : Tables) (e : Entry) → AreSound t → IsStep t e → AreSaidOnce e.effects
step_once t e s step = on e.event step.effects where
  on : (event : EventValue) → HasEffects t event e.effects → AreSaidOnce e.effects
  on (Draw client) is = drawn_once t e.effects (client_at t client) is
  on event is = subst AreSaidOnce (sym is) (once t event s)
