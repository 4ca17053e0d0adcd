-- Reading keys, and messages, change nothing else of the clients.
use Rattle.session_laws.proofs.Vocabulary.{◌≡◌, ℕ, Bool, true, false, List, [], ◌∷◌, ◌++◌, Option, Some, None, refl, ap}
use Rattle.session_laws.proofs.Vocabulary.{sym, ◌∙◌, map, subst, if◌then◌else◌, ◌||◌, codes, option_and_then, UserId}
use Rattle.session_laws.proofs.Vocabulary.{Act, Left, Order, Effect, Say, Gone, StatusMessage, Text, Refusal, Tables}
use Rattle.session_laws.proofs.Vocabulary.{Client, row_of, with_row, client_at, with_client, focused, focused_window}
use Rattle.session_laws.proofs.Vocabulary.{shows, is_in_focus, text_of, client_item, clients_text, separated}
use Rattle.session_laws.proofs.Vocabulary.{first_fault, typing_checks, Deed, changing, hearing, left_acts_of, left_acts}
use Rattle.session_laws.proofs.Vocabulary.{says_why, types, input_in, Given, SomeOf, IsClient, IsDoneBy, is_named}
use Rattle.session_laws.proofs.Vocabulary.{is_owners, unread, told_by, row_serial, some_weaken, some_map, some_mapped}
use Rattle.command_lang.specs.declared.command.Command.TheVariants as command
use Rattle.session_model.specs.declared.event.Peer.TheVariants as peer
use Rattle.session_laws.proofs.Moving.{map_with_row}
use Rattle.session_laws.proofs.Leaving.{none_left}

-- ---- rows

pub read_row : (cs : List Client) (s : ℕ) (c d : Client) → row_of (λ (x : Client). x.serial) cs s ≡ Some c
    → unread d ≡ unread c
    → map unread (with_row (λ (x : Client). x.serial) cs s d) ≡ map unread cs
read_row cs s c d is same = map_with_row unread (λ (x : Client). x.serial) cs s d
    (λ r at. same ∙ (let e : Some c ≡ Some r = sym is ∙ at in let f : c ≡ r = cc (e) in ap unread f))

pub row_at : (t : Tables) (s : ℕ) (c : Client) → client_at t s ≡ Some c → client_at t c.serial ≡ Some c
row_at t s c is = ap (client_at t) (row_serial (λ (x : Client). x.serial) t.clients s c is) ∙ is

pub caller_row : (t : Tables) (o : Option ℕ) (c : Client) → option_and_then (client_at t) o ≡ Some c
    → client_at t c.serial ≡ Some c
caller_row t None c is = absurd (cc (is))
caller_row t (Some n) c is = row_at t n c is

-- the same clients, keys and messages aside
abbrev pub SameClients : Tables → List Client → Type 0
SameClients t cs = map unread cs ≡ map unread t.clients

pub client_read : (t : Tables) (s : ℕ) (c d : Client) → client_at t s ≡ Some c → unread d ≡ unread c
    → SameClients t (with_row (λ (x : Client). x.serial) t.clients c.serial d)
client_read t s c d is same = read_row t.clients c.serial c d (row_at t s c is) same

-- ---- what typing leaves

pub typing_told : (P : Tables → Type 0) (t : Tables) (c : Client) (bytes : List ℕ) → P t
    → ((m : StatusMessage) (d : Client) → client_at t c.serial ≡ Some d → P (with_client t (hearing m d)))
    → P (types t c bytes).tables
typing_told P t c [] here changed = here
typing_told P t c (b ∷ bytes) here changed = on (first_fault t (typing_checks c.user (focused_window t c))) where
  on_row : (m : StatusMessage) (o : Option Client) → client_at t c.serial ≡ o
      → P (elim o as (λ _. Tables) [ None ↦ t | Some d ↦ with_client t (hearing m d) ])
  on_row m None is = here
  on_row m (Some d) is = changed m d is

  on : (o : Option Refusal) → P (elim o as (λ _. Deed) [
    | Some r ↦ says_why t c.serial r
    | None ↦ record (changing t) { effects = input_in (focused_window t c) (b ∷ bytes) }
  ]).tables
  on None = here
  on (Some r) = on_row (Text (text_of r)) (client_at t c.serial) refl

-- the clients that typing leaves, after keys were read
pub typing_clients : (P : Tables → Type 0) (t : Tables) (s : ℕ) (c d : Client) (bytes : List ℕ) → client_at t s ≡ Some c
    → unread d ≡ unread c → d.serial ≡ c.serial
    → ((cs : List Client) → SameClients t cs → P (record t { clients = cs }))
    → P (types (with_client t d) d bytes).tables
typing_clients P t s c d bytes is same serial on =
    let cs : List Client = with_row (λ (x : Client). x.serial) t.clients d.serial d in
    let u : Tables = record t { clients = cs } in
    let only : SameClients t cs = subst (λ n. SameClients t (with_row (λ (x : Client). x.serial) t.clients n d))
    (sym serial) (client_read t s c d is same) in
    typing_told P u d bytes (on cs only)
    (λ m e at. on (with_row (λ (x : Client). x.serial) cs e.serial (hearing m e))
    (read_row cs e.serial e (hearing m e) (row_at u d.serial e at) refl ∙ only))

-- ---- nobody leaves

focus_unread : (cs : List Client) (user : UserId) (w : ℕ) → is_in_focus cs user w ≡ is_in_focus (map unread cs) user w
focus_unread [] user w = refl
focus_unread (c ∷ cs) user w = ap (λ b. shows user w c || b) (focus_unread cs user w)

left_same : (before a b : List Client) → ((user : UserId) (w : ℕ) → is_in_focus a user w ≡ is_in_focus b user w)
    → left_acts before a ≡ left_acts before b
left_same [] a b same = refl
left_same (c ∷ before) a b same = ap (λ acts. acts ++ left_acts before a) (one (focused c))
    ∙ ap (λ acts. left_acts_of c (focused c) before b ++ acts) (left_same before a b same) where
      one : (o : Option ℕ) → left_acts_of c o before a ≡ left_acts_of c o before b
      one None = refl
      one (Some w) = ap
          (λ x. if is_in_focus before c.user w || x then (let none : List Act = [] in none) else Left c.user w ∷ [])
          (same c.user w)

-- reading keys makes no user leave a window
pub left_unread : (before a b : List Client) → map unread a ≡ map unread b → left_acts before a ≡ left_acts before b
left_unread before a b is = left_same before a b
    (λ user w. focus_unread a user w ∙ ap (λ cs. is_in_focus cs user w) is ∙ sym (focus_unread b user w))

pub nobody_left : (before a : List Client) → map unread a ≡ map unread before → left_acts before a ≡ []
nobody_left before a is = left_same before a before
    (λ user w. focus_unread a user w ∙ ap (λ cs. is_in_focus cs user w) is ∙ sym (focus_unread before user w))
    ∙ none_left before

-- ---- what commands do doesn't depend on keys and messages

items_unread : (t : Tables) (cs : List Client) → map (client_item t) cs ≡ map (client_item t) (map unread cs)
items_unread t [] = refl
items_unread t (c ∷ cs) = ap (λ items. client_item t c ∷ items) (items_unread t cs)

clients_same : (t : Tables) (cs : List Client) → SameClients t cs
    → clients_text (record t { clients = cs }) ≡ clients_text t
clients_same t cs same =
    ap (separated (codes "  ")) (items_unread t cs ∙ ap (map (client_item t)) same ∙ sym (items_unread t t.clients))

pub told_in : (t : Tables) (cs : List Client) → SameClients t cs → (g : Given) (c : Order)
    → told_by (record t { clients = cs }) g c ≡ told_by t g c
told_in t cs same g command.Displays = ap Some (clients_same t cs same)
told_in t cs same g c = refl

client_in : (t : Tables) (cs : List Client) → SameClients t cs → (p : Client → Bool)
    → ((c : Client) → p (unread c) ≡ p c) → (n : ℕ) → IsClient (record t { clients = cs }) p n → IsClient t p n
client_in t cs same p alike n some =
    let Q : Client → Type 0 = λ c. (c.serial ≡ n) × (p c ≡ true) in
    some_weaken (λ c. Q (unread c)) Q t.clients (λ c q. (q.0, sym (alike c) ∙ q.1))
    (some_mapped Q unread t.clients (subst (SomeOf Q) same
    (some_map Q unread cs (some_weaken Q (λ c. Q (unread c)) cs (λ c q. (q.0, alike c ∙ q.1)) some))))

pub done_in : (t : Tables) (cs : List Client) → SameClients t cs → (g : Given) (c : Order) (f : Effect)
    → IsDoneBy (record t { clients = cs }) g c f → IsDoneBy t g c f
done_in t cs same g (command.Wall text) (Say client said) is =
    (client_in t cs same (λ c. true) (λ c. refl) client is.0, is.1)
done_in t cs same g command.Quit (Gone (peer.Client client) why) is =
    (client_in t cs same (λ c. true) (λ c. refl) client is.0, is.1)
done_in t cs same g (command.Acldel word) (Gone (peer.Client client) why) is =
    (client_in t cs same (is_named word) (λ c. refl) client is.0, is.1)
done_in t cs same g (command.Multiuser false) (Gone (peer.Client client) why) is =
    (client_in t cs same (λ c. Rattle.std.specs.Prelude.not (is_owners t c)) (λ c. refl) client is.0, is.1)
done_in t cs same g c f is = is
