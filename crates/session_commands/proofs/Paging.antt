-- A deed that changes a client's page, and may let its user enter the window in focus, was done.
use Rattle.session_commands.proofs.Vocabulary.{◌≡◌, ◌∙◌, ℕ, List, Option, Some, None, ap, sym, subst, append-nil}
use Rattle.session_commands.proofs.Vocabulary.{option_and_then, Arrangement, Tables, row_of, with_row, client_at}
use Rattle.session_commands.proofs.Vocabulary.{focused, with_layout, arranges, enters, caller_client, BothOrNone}
use Rattle.session_commands.proofs.Vocabulary.{none_back, serial_is, Client, ClientStands, AreClients, Changes, Caller}
use Rattle.session_commands.proofs.Vocabulary.{StepOutput, State, Stands, HasDone, caller_in, IsOpenThere}
use Rattle.session_model.specs.Tables as model
use Rattle.session_model.specs.Tables.{with_client}
use Rattle.windows_model.proofs.Serials.{with_same}
use Rattle.session_state.specs.Doing.{GivesBy}
use Rattle.session_commands.specs.Entering.{EntersFocus}

abbrev pub model_serial : model.Client → ℕ
model_serial m = m.serial

-- the client that gives a command, and its row
pub record Gives (t : Tables) (k : Caller) (client : ℕ) (m : model.Client) : Type 0 where
  pub is : caller_client t (caller_in t k) ≡ Some m
  pub at : client_at t client ≡ Some m

pub giver_there : (t : Tables) (k : Caller) (client : ℕ) (s : State) → Stands t s → GivesBy client s k
    → (m : model.Client) × Gives t k client m
giver_there t k client s st gives =
    let row = gives.attached t st in (
      row.0,
      record {
        is = ap (λ o. option_and_then (client_at t) o) gives.client_is ∙ row.1;
        at = row.1;
      },
    )

-- what a client's row stands for, if both were found
pub row_stands : (m : model.Client) (c : Client) (o : Option model.Client) (p : Option Client)
    → BothOrNone ClientStands o p → o ≡ Some m → p ≡ Some c → ClientStands m c
row_stands m c o None both at is = absurd (cc (is))
row_stands m c None (Some y) both at is = absurd (cc (at))
row_stands m c (Some x) (Some y) both at is =
    subst (λ z. ClientStands m z) (let e : y ≡ c = cc (is) in e)
    (subst (λ z. ClientStands z y) (let e : x ≡ m = cc (at) in e) both)

-- a client's row that stands for one that is there is found
pub row_there : (m : model.Client) (o : Option model.Client) (p : Option Client) → BothOrNone ClientStands o p
    → o ≡ Some m → p ≡ None → ⊥
row_there m o p both at is = let none = none_back ClientStands o p both is in absurd (cc (at, none))

-- the page of a row is arranged by F now
pub arranged : (t : Tables) (s : State) (new : List Client) (serial : ℕ) (m : model.Client)
    (F : model.Client → Arrangement) → Stands t s → client_at t serial ≡ Some m
    → Changes (λ m. with_layout (F m) m) serial s.clients new
    → Stands (with_client t (with_layout (F m) m)) (record s { clients = new })
arranged t s new serial m F st at changes = record {
  acl = st.acl;
  locks = st.locks;
  multiuser_is = st.multiuser_is;
  windows = st.windows;
  clients = subst (λ n. AreClients (with_row model_serial t.clients n (with_layout (F m) m)) new)
      (sym (serial_is model_serial t.clients serial m at)) (changes t.clients m st.clients at);
  next_window_is = st.next_window_is;
  next_client_is = st.next_client_is;
}

-- the client is there with this page
pub arranged_at : (t : Tables) (serial : ℕ) (m : model.Client) (l : Arrangement) → client_at t serial ≡ Some m
    → client_at (with_client t (with_layout l m)) serial ≡ Some (with_layout l m)
arranged_at t serial m l at =
    let e : m.serial ≡ serial = serial_is model_serial t.clients serial m at in
    subst
    (λ n. row_of model_serial (with_row model_serial t.clients n (with_layout l m)) serial ≡ Some (with_layout l m))
    (sym e)
    (with_same model_serial t.clients serial m (with_layout l m) at e)

-- a deed that changes the page alone
pub done_quietly : (t : Tables) (s : State) (clients : List Client) (serial : ℕ) (m : model.Client)
    (F : model.Client → Arrangement) (made : StepOutput) → Stands t s → client_at t serial ≡ Some m
    → Changes (λ m. with_layout (F m) m) serial s.clients clients
    → HasDone t (arranges t m (F m)) (record s { clients = clients }) made made
done_quietly t s clients serial m F made st at changes = record {
  stands = arranged t s clients serial m F st at changes;
  acts = sym (append-nil made.acts.items);
  effects = sym (append-nil made.effects.items);
}

still_open : (t : Tables) (m : model.Client) (o : Option ℕ) → IsOpenThere t o → IsOpenThere (with_client t m) o
still_open t m None is = tt
still_open t m (Some w) is = is

-- a deed after which the client's user enters the window in focus
pub done_entering : (t : Tables) (s : State) (clients : List Client) (serial : ℕ) (m : model.Client)
    (F : model.Client → Arrangement) (new : State) (before after : StepOutput) → Stands t s
    → client_at t serial ≡ Some m
    → Changes (λ m. with_layout (F m) m) serial s.clients clients
    → EntersFocus serial (record s { clients = clients }) new before after
    → IsOpenThere t (focused (with_layout (F m) m)) → HasDone t (enters t m (F m)) new before after
done_entering t s clients serial m F new before after st at changes enters there =
    let d : model.Client = with_layout (F m) m in
    let did = enters (with_client t d) d (arranged t s clients serial m F st at changes)
    (arranged_at t serial m (F m) at) (still_open t d (focused d) there) in
    record { stands = did.stands; acts = did.acts; effects = did.effects }
