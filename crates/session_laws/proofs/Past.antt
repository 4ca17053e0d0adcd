-- A client's row after a step: the keys and the deliveries of the step follow those before it.
use Rattle.session_laws.proofs.Vocabulary.{◌≡◌, ℕ, Bool, true, false, List, [], ◌∷◌, ◌++◌, Option, Some, None, Ok, Err}
use Rattle.session_laws.proofs.Vocabulary.{Result, refl, ap, sym, ◌∙◌, ⊎_elim, if◌then◌else◌, ◌==◌, AllByRecursion}
use Rattle.session_laws.proofs.Vocabulary.{Order, ParseFault, Item, bound, line, Effect, Deliver, StatusMessage}
use Rattle.session_laws.proofs.Vocabulary.{Refusal, EventValue, Detach, Keys, Command, Closed, Draw, Reply, Tables}
use Rattle.session_laws.proofs.Vocabulary.{Client, row_of, with_row, caller_of, read_line, checks, first_fault, Answer}
use Rattle.session_laws.proofs.Vocabulary.{hearing, does, types, ordered, keyed, with_listed, message_of, told}
use Rattle.session_laws.proofs.Vocabulary.{deliveries, Given, commands_of, SomeOf, IsEffectOf, IsDoneByRight, Rises}
use Rattle.session_laws.proofs.Vocabulary.{client_serials, some_elim, row_goes, some_weaken, keys_read, is_resize}
use Rattle.session_laws.proofs.Vocabulary.{delivered_by, all_weaken}
use Rattle.session_model.specs.Answering as answering
use Rattle.session_laws.proofs.Inputs.{append_nil}
use Rattle.session_laws.proofs.Doing.{Either}
use Rattle.session_laws.proofs.EffectsCaused.{never_delivers}
use Rattle.session_laws.proofs.Settling.{told_same}
use Rattle.session_laws.proofs.Unread.{typing_told}
use Rattle.session_laws.proofs.Keeping.{core, Keeps, keeps_same, keeps_client, keeps_then, keeps}

-- ---- how a row goes on

abbrev pub GoesOn : EventValue → Reply → List Effect → Client → Client → Type 0
GoesOn event reply effects c d =
    (d.serial ≡ c.serial) × (d.keys ≡ c.keys ++ keys_read event reply c.serial)
    × (d.delivered ≡ delivered_by event reply effects c.serial c.delivered)

abbrev pub AllGoOn : EventValue → Reply → List Effect → List Client → List Client → Type 0
AllGoOn event reply effects cs ds = AllByRecursion (λ d. SomeOf (λ c. GoesOn event reply effects c d) cs) ds

-- if nothing was read or delivered
module _ (event : EventValue) (reply : Reply) (effects : List Effect) (c d : Client)
    (unread : keys_read event reply c.serial ≡ []) (same_size : is_resize event reply c.serial ≡ false)
    (undelivered : deliveries effects c.serial ≡ []) where
  pub goes_on : core c ≡ core d → GoesOn event reply effects c d
  goes_on same = (
    sym (ap (λ (x : Client). x.serial) same),
    sym (ap (λ (x : Client). x.keys) same) ∙ sym (append_nil c.keys) ∙ ap (λ ks. c.keys ++ ks) (sym unread),
    sym (ap (λ (x : Client). x.delivered) same) ∙ sym (append_nil c.delivered)
        ∙ ap (λ bs. c.delivered ++ bs) (sym undelivered)
        ∙ ap (λ (b : Bool). (if b then [] else c.delivered) ++ deliveries effects c.serial) (sym same_size),
  )

pub all_go_on : (event : EventValue) (reply : Reply) (effects : List Effect) (cs ds : List Client)
    → ((n : ℕ) → keys_read event reply n ≡ []) → ((n : ℕ) → is_resize event reply n ≡ false)
    → ((n : ℕ) → deliveries effects n ≡ [])
    → Keeps cs ds → AllGoOn event reply effects cs ds
all_go_on event reply effects cs ds unread same_size undelivered kept =
    all_weaken (λ d. SomeOf (λ c. core c ≡ core d) cs) (λ d. SomeOf (λ c. GoesOn event reply effects c d) cs) ds
    (λ d some. some_weaken (λ c. core c ≡ core d) (λ c. GoesOn event reply effects c d) cs
    (λ c same. goes_on event reply effects c d (unread c.serial) (same_size c.serial) (undelivered c.serial) same)
    some) kept

-- one row replaces another, and the others are unchanged
module _ (F : Client → Client → Type 0) (c x : Client)
    (own : (d : Client) → core x ≡ core d → F c d)
    (others : (r : Client) → (r.serial == c.serial) ≡ false → (d : Client) → core r ≡ core d → F r d) where
  abbrev Goes : Client → Client → Type 0
  Goes r y = (d : Client) → core y ≡ core d → F r d

  pub changed_row : (cs : List Client) (next : ℕ) → Rises (client_serials cs) next
      → row_of (λ (r : Client). r.serial) cs c.serial ≡ Some c
      → (d : Client) → SomeOf (λ r. core r ≡ core d) (with_row (λ (r : Client). r.serial) cs c.serial x)
      → SomeOf (λ r. F r d) cs
  changed_row cs next rise is d some =
      some_elim (λ y. core y ≡ core d) (λ y. SomeOf (λ r. Goes r y) cs) (SomeOf (λ r. F r d) cs)
      (with_row (λ (r : Client). r.serial) cs c.serial x)
      (λ y same goes. some_weaken (λ r. Goes r y) (λ r. F r d) cs (λ r go. go d same) goes) some
      (row_goes (λ (r : Client). r.serial) Goes c x own others cs next rise is)

-- ---- what isn't delivered

abbrev IsNoDeliver : Effect → Type 0
IsNoDeliver (Deliver to bytes) = ⊥
IsNoDeliver f = Unit {0}

none_delivered : (effects : List Effect) → AllByRecursion IsNoDeliver effects → (n : ℕ) → deliveries effects n ≡ []
none_delivered [] all n = refl
none_delivered (Deliver to bytes ∷ effects) all n = absurd all.0
none_delivered (a ∷ effects) all n = none_delivered effects all.1 n

not_by_right : (t : Tables) (to : ℕ) (bytes : List ℕ) (gs : List Given) → SomeOf (IsDoneByRight t (Deliver to bytes)) gs
    → ⊥
not_by_right t to bytes [] some = some
not_by_right t to bytes (g ∷ gs) some = ⊎_elim
    (λ (here : IsDoneByRight t (Deliver to bytes) g). never_delivers t g g.order to bytes here.1)
    (λ later. not_by_right t to bytes gs later) some

abbrev pub is_draw : EventValue → Bool
is_draw (Draw client) = true
is_draw event = false

no_deliver : (t : Tables) (event : EventValue) → is_draw event ≡ false → (f : Effect) → IsEffectOf t event f
    → IsNoDeliver f
no_deliver t (Draw client) other f is = absurd (cc (other))
no_deliver t (Keys client bytes) other (Deliver to said) is = ⊎_elim (λ (never : ⊥). never)
    (λ some. not_by_right t to said (commands_of t (Keys client bytes)) some) is
no_deliver t (Command user number bytes) other (Deliver to said) is = not_by_right t to said
    (commands_of t (Command user number bytes)) is
no_deliver t (Detach client) other (Deliver to said) is = cc (is)
no_deliver t (Closed window) other (Deliver to said) is = cc (is)
no_deliver t event other (Deliver to said) is = is
no_deliver t event other f is = tt

pub undelivered : (t : Tables) (event : EventValue) (effects : List Effect) → is_draw event ≡ false
    → AllByRecursion (IsEffectOf t event) effects → (n : ℕ) → deliveries effects n ≡ []
undelivered t event effects other all = none_delivered effects
    (all_weaken (IsEffectOf t event) IsNoDeliver effects (no_deliver t event other) all)

-- ---- what keys and commands keep

told_keeps : (v : Tables) (client : ℕ) (m : StatusMessage) → Keeps v.clients (told v client m).clients
told_keeps v client m = told_same (λ u. Keeps v.clients u.clients) v client m (keeps_same v.clients)
    (λ c is. keeps_client v client c (hearing m c) is refl)

keyed_keeps : (v : Tables) (client : ℕ) (m : List ℕ → StatusMessage) (a : Answer)
    → Either (λ d. Keeps v.clients d.tables.clients) a → Keeps v.clients (keyed v client m a).tables.clients
keyed_keeps v client m (Err r) plain = told_keeps v client _
keyed_keeps v client m (Ok d) all = on d.lists where
  on : (o : Option (List ℕ)) → Keeps v.clients (with_listed client m o d).tables.clients
  on None = all
  on (Some bytes) = keeps_then v.clients d.tables.clients (told d.tables client (m bytes)).clients all
      (told_keeps d.tables client (m bytes))

order_keeps : (v : Tables) (d : Client) (order : Order)
    → Keeps v.clients (answering.by_line v d (Ok order)).deed.tables.clients
order_keeps v d order = on (first_fault v (checks v (caller_of v d) order)) where
  on : (o : Option Refusal)
      → Keeps v.clients
      (keyed v d.serial (message_of order)
      (elim o as (λ _. Answer) [ Some r ↦ Err r | None ↦ does v (caller_of v d) order ])).tables.clients
  on (Some r) = told_keeps v d.serial _
  on None = keyed_keeps v d.serial (message_of order) (does v (caller_of v d) order) (keeps v (caller_of v d) order)

read_keeps : (v : Tables) (d : Client) (r : Result Order ParseFault)
    → Keeps v.clients (answering.by_line v d r).deed.tables.clients
read_keeps v d (Err f) = told_keeps v d.serial _
read_keeps v d (Ok order) = order_keeps v d order

item_keeps : (v : Tables) (d : Client) (item : Option Item) → Keeps v.clients (ordered v d item).deed.tables.clients
item_keeps v d (Some (bound order)) = order_keeps v d order
item_keeps v d (Some (line (b ∷ bs))) = read_keeps v d (read_line (b ∷ bs))
item_keeps v d item = keeps_same v.clients

-- typed bytes, and then a command
pub keys_keep : (u : Tables) (d : Client) (bytes : List ℕ) (item : Option Item)
    → Keeps u.clients (ordered (types u d bytes).tables d item).deed.tables.clients
keys_keep u d bytes item =
    keeps_then u.clients (types u d bytes).tables.clients (ordered (types u d bytes).tables d item).deed.tables.clients
    (typing_told (λ w. Keeps u.clients w.clients) u d bytes (keeps_same u.clients)
    (λ m e at. keeps_client u d.serial e (hearing m e) at refl))
    (item_keeps (types u d bytes).tables d item)
