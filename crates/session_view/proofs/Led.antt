-- A client that sees the same as the client of a frame is drawn by that frame, or by its own.
use Rattle.session_view.proofs.Vocabulary.{◌≡◌, ℕ, Some, ap, sym, ◌∙◌, subst, Knowledge, knowledge_of, Made, HasSize}
use Rattle.session_view.proofs.Vocabulary.{Tables, client_at, granted_view, row_there, ClientStands, Client, LeadsFrom}
use Rattle.session_view.proofs.Vocabulary.{FitsIn, serials, State, Stands, Lead, IsGranted, LeadsOn, SeesAlso}
use Rattle.session_model.specs.Tables as model
use Rattle.session_state.proofs.Changing.{model_serial, serial_of}
use Rattle.session_view.specs.Following.{Leads, IsLed}
use Rattle.session_view.proofs.Delivering.{shadow_is}

module _ (t : Tables) (s : State) (client : ℕ) (l : Lead) (st : Stands t s) (m n : model.Client)
    (at : client_at t client ≡ Some m) (there : client_at t l.client ≡ Some n) (same : SeesAlso t m n)
    (led : IsLed t l) where
  abbrev its : Leads t n l
  its = led n there

  pub sees : l.frame.view ≡ granted_view t m
  sees = its.granted.granted ∙ sym same.granted

  granted_also : IsGranted t m l.frame.view
  granted_also = record {
    granted = sees;
    drawable = its.granted.drawable;
    size = record {
      rows_are = its.granted.size.rows_are ∙ sym same.rows;
      columns_are = its.granted.size.columns_are ∙ sym same.columns;
    };
  }

  -- by the same frame
  pub leads_also : m.drawn ≡ l.frame.before.known → LeadsOn t m l.frame
  leads_also known =
      let b : Knowledge = l.frame.before in record {
        before =
            ap (λ r. knowledge_of r b.columns b.known) (its.rows ∙ sym same.rows)
            ∙ (ap (λ c. knowledge_of m.rows c b.known) (its.columns ∙ sym same.columns)
            ∙ ap (λ k. knowledge_of m.rows m.columns k) (sym known));
        granted = granted_also;
      }

  -- by a frame of its own
  pub own_leads : (f : Made) → LeadsFrom client s.clients f.before → f.view ≡ l.frame.view → LeadsOn t m f
  own_leads f leads view =
      let row = row_there ClientStands model_serial serial_of serials t.clients s.clients client m st.clients at in
      record {
        before = sym (leads row.0 row.1) ∙ shadow_is m row.0 row.2;
        granted = subst (IsGranted t m) (sym view) granted_also;
      }

  -- its terminal has the view's size
  pub fits : FitsIn client s.clients l.frame.view
  fits = λ c here.
      let row = row_there ClientStands model_serial serial_of serials t.clients s.clients client m st.clients at in
      let is : row.0 ≡ c = cc (row.1, here) in
      subst (λ (y : Client). HasSize y.shadow.rows y.shadow.columns l.frame.view) is
      (subst (λ r. HasSize r row.0.shadow.columns l.frame.view) (sym row.2.rows_are)
      (subst (λ k. HasSize m.rows k l.frame.view) (sym row.2.columns_are) granted_also.size))
