-- A client that was told a text has its message, and the state stands for that.
use Rattle.session_input.proofs.Vocabulary.{◌≡◌, ℕ, List, [], ◌∷◌, ◌++◌, Option, Some, None, ap, sym, subst, ◌∙◌}
use Rattle.session_input.proofs.Vocabulary.{append-nil, Say, StatusMessage, Tables, client_at, with_client}
use Rattle.session_input.proofs.Vocabulary.{with_row, Deed, changing, hearing, says, serial_is, AreClients, StepOutput}
use Rattle.session_input.proofs.Vocabulary.{State, Stands, HasDone}
use Rattle.session_model.specs.Tables as model
use Rattle.session_model.specs.Answering.{told}
use Rattle.session_state.specs.declared.client.Client.{Client}
use Rattle.session_state.specs.Clients.{Changes}

abbrev serial : model.Client → ℕ
serial c = c.serial

-- a client's row changes
pub stands_client : (t : Tables) (s : State) (n : ℕ) (d : model.Client) (cs : List Client)
    → d.serial ≡ n → AreClients (with_row serial t.clients n d) cs → Stands t s
    → Stands (with_client t d) (record s { clients = cs })
stands_client t s n d cs same are st = record {
  acl = st.acl;
  locks = st.locks;
  multiuser_is = st.multiuser_is;
  windows = st.windows;
  clients = subst (λ (k : ℕ). AreClients (with_row serial t.clients k d) cs) (sym same) are;
  next_window_is = st.next_window_is;
  next_client_is = st.next_client_is;
}

-- a client that is there is told
pub told_there : (t : Tables) (n : ℕ) (m : StatusMessage) (c : model.Client) → client_at t n ≡ Some c
    → told t n m ≡ with_client t (hearing m c)
told_there t n m c at =
    ap (λ (o : Option model.Client). elim o as (λ _. Tables) [
      | None ↦ t
      | Some d ↦ with_client t (hearing m d)
    ]) at

abbrev saying : Tables → ℕ → List ℕ → Deed
saying u n text = record (changing u) { effects = Say n text ∷ [] }

pub said_done : (t : Tables) (s : State) (n : ℕ) (m : StatusMessage) (text : List ℕ) (c : model.Client)
    (cs : List Client) (before after : StepOutput) → client_at t n ≡ Some c
    → Changes (hearing m) n s.clients cs → Stands t s
    → after.effects.items ≡ before.effects.items ++ Say n text ∷ []
    → after.acts.items ≡ before.acts.items
    → HasDone t (says t n m text) (record s { clients = cs }) before after
said_done t s n m text c cs before after at changes st effects acts =
    let there : c.serial ≡ n = serial_is serial t.clients n c at in
    subst (λ (u : Tables). HasDone t (saying u n text) (record s { clients = cs }) before after)
    (sym (told_there t n m c at)) (record {
      stands = stands_client t s n (hearing m c) cs there (changes t.clients c st.clients at) st;
      acts = acts ∙ sym (append-nil before.acts.items);
      effects = effects;
    })
