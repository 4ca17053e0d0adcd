-- A client that attaches is the definitions' one, and its user enters the window that it shows.
use Rattle.session_events.proofs.Vocabulary.{◌≡◌, ℕ, ◌+◌, List, [], ◌∷◌, ◌++◌, Option, Some, None, ap, sym, subst, ◌∙◌}
use Rattle.session_events.proofs.Vocabulary.{append_assoc, append-nil, option_map, UserId, Act, Effect, Tables, Window}
use Rattle.session_events.proofs.Vocabulary.{with_row, lowest, AreClients, StepOutput, State, Stands, AreFit, HasDone}
use Rattle.session_events.proofs.Vocabulary.{IsOpenIn}
use Rattle.acl.specs.declared.act.Act.TheVariants as act
use Rattle.acl.proofs.AsideLemmas.{StandsFor-aside}
use Rattle.writelock.proofs.LockLemmas.{LocksStandFor-Attached}
use Rattle.session_model.specs.Tables.{Client, with_client, client_at}
use Rattle.session_model.specs.Deeds.{acting, changing, entering}
use Rattle.session_model.specs.Comings.{attached, new_client, attaches, resized}
use Rattle.session_state.specs.declared.client.Client.{Client as Row}
use Rattle.session_state.specs.Clients as clients
use Rattle.windows_model.proofs.Serials.{serial_is as serial_at}
use Rattle.session_events.proofs.Finding.{lowest_open}

-- the window that a new client shows
abbrev pub first_of : Tables → Option ℕ
first_of t = option_map (λ (w : Window). w.serial) (lowest t.windows)

module _ (t : Tables) (user : UserId) (rows columns : ℕ) where
  -- the tables with it, before its user enters the window
  abbrev pub with_new : Tables
  with_new = record t {
    clients = t.clients ++ new_client t user rows columns ∷ [];
    next_client = t.next_client + 1;
    acts = act.Attached t.next_client user ∷ t.acts;
  }

  module _ (s : State) (st : Stands t s) (serial : ℕ) (window : Option ℕ) (cs : List Row)
      (serial_is : serial ≡ t.next_client) (window_is : window ≡ first_of t)
      (on : clients.Attaches (attached serial user rows columns window) s.clients cs) where
    pub stands_new : Stands with_new (record s { clients = cs; next_client = s.next_client + 1 })
    stands_new =
        let same : attached serial user rows columns window ≡ new_client t user rows columns =
        ap (λ n. attached n user rows columns window) serial_is
        ∙ ap (λ w. attached t.next_client user rows columns w) window_is in
        record {
          acl =
              StandsFor-aside s.acl t.edition t.owner t.acts (act.Attached t.next_client user) tt
              st.acl;
          locks =
              LocksStandFor-Attached s.locks t.edition t.owner t.acts t.next_client user st.locks;
          multiuser_is = st.multiuser_is;
          windows = st.windows;
          clients =
              subst (λ (m : Client). AreClients (t.clients ++ m ∷ []) cs) same
              (on.attached t.clients st.clients);
          next_window_is = st.next_window_is;
          next_client_is = ap (λ n. n + 1) st.next_client_is;
        }

    -- then its user enters the window
    pub attached_done : (new : State) (before middle after : StepOutput) → AreFit t
        → middle.acts.items ≡ before.acts.items ++ act.Attached serial user ∷ []
        → middle.effects.items ≡ before.effects.items
        → ((u : Tables) → Stands u (record s { clients = cs; next_client = s.next_client + 1 })
        → IsOpenIn u.acts window → HasDone u (acting u (entering user window)) new middle after)
        → HasDone t (attaches t (new_client t user rows columns)) new before after
    attached_done new before middle after fit noted quiet entered =
        let done =
        entered with_new stands_new
        (subst (λ w. IsOpenIn with_new.acts w) (sym window_is) (open_still (lowest_open t fit))) in
        let all : HasDone with_new (acting with_new (entering user (first_of t))) new middle after =
        subst (λ w. HasDone with_new (acting with_new (entering user w)) new middle after)
        window_is done in
        record {
          stands = all.stands;
          acts =
              all.acts
              ∙ (ap (λ (acts : List Act). acts ++ entering user (first_of t)) noted
              ∙ (append_assoc before.acts.items (act.Attached serial user ∷ []) _
              ∙ ap (λ n. before.acts.items ++ (act.Attached n user ∷ entering user (first_of t)))
              serial_is));
          effects = all.effects ∙ ap (λ (es : List Effect). es ++ []) quiet;
        } where
          open_still : IsOpenIn t.acts (first_of t) → IsOpenIn with_new.acts (first_of t)
          open_still is = by (first_of t) is where
            by : (o : Option ℕ) → IsOpenIn t.acts o → IsOpenIn with_new.acts o
            by None is = tt
            by (Some w) is = is

-- ---- a client whose terminal has another size

pub resized_done : (t : Tables) (s : State) (client rows columns : ℕ) (c : Client) (cs : List Row)
    (made : StepOutput) → Stands t s → client_at t client ≡ Some c
    → clients.Changes (resized rows columns) client s.clients cs
    → HasDone t (changing (with_client t (resized rows columns c))) (record s { clients = cs }) made
    made
resized_done t s client rows columns c cs made st at by =
    let same : c.serial ≡ client = serial_at (λ (d : Client). d.serial) t.clients client c at in
    record {
      stands = record {
        acl = st.acl;
        locks = st.locks;
        multiuser_is = st.multiuser_is;
        windows = st.windows;
        clients =
            subst (λ n. AreClients (with_row (λ (d : Client). d.serial) t.clients n
            (resized rows columns c)) cs) (sym same) (by t.clients c st.clients at);
        next_window_is = st.next_window_is;
        next_client_is = st.next_client_is;
      };
      acts = sym (append-nil _);
      effects = sym (append-nil _);
    }
