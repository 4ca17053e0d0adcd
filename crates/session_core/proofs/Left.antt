-- What the code leaves of the shared frame after a step is what the definitions leave.
use Rattle.session_core.proofs.Vocabulary.{◌≡◌, ℕ, List, [], Option, Some, None, Ok, Err, refl, ap, sym, ◌∙◌, subst}
use Rattle.session_core.proofs.Vocabulary.{inl, inr, is_ok, View, EventValue, Keys, Command, Draw, Output, Entry, Reply}
use Rattle.session_core.proofs.Vocabulary.{Tables, Rises, client_serials, outcome, IsStep, drawn, after, all_weaken}
use Rattle.session_core.proofs.Vocabulary.{refusals, Lead, Knows, Sharing, AllKnow, IsLead, IsLeadIfAny, IsShared}
use Rattle.session_core.proofs.Vocabulary.{AreLeft, StayShared}
use Rattle.session_model.specs.Sound.{AreSound}
use Rattle.session_core.specs.Sharing.{PassesOn}
use Rattle.session_core.proofs.Staying.{StayDrawn, keys_drawn, line_drawn, output_drawn, was_drawn}

-- nothing is known
pub none_shared : (t : Tables) (s : Sharing) → s.lead ≡ None → s.alike.items ≡ [] → IsShared t s
none_shared t s lead alike = record {
  known = None;
  alike = subst (AllKnow t None) (sym alike) tt;
  lead = subst (IsLeadIfAny t None s.followers.items) (sym lead) tt;
}

module _ (t u : Tables) (rise : Rises (client_serials t.clients) t.next_client) (stay : StayDrawn t.clients u.clients)
  where
    know_still : (known : Option View) (ns : List ℕ) → AllKnow t known ns → AllKnow u known ns
    know_still known ns all = all_weaken (Knows t known) (Knows u known) ns
        (λ n knows d at. let was = was_drawn t.clients u.clients t.next_client n d rise stay at in sym was.2
        ∙ knows was.0 was.1) all

    -- some clients were drawn this last, and there is no frame
    left_alike : (new : Sharing) (known : Option View) (ns : List ℕ) → new.lead ≡ None → AllKnow t known ns
        → new.alike.items ≡ ns → IsShared u new
    left_alike new known ns none all are = record {
      known = known;
      alike = subst (AllKnow u known) (sym are) (know_still known ns all);
      lead = subst (IsLeadIfAny u known new.followers.items) (sym none) tt;
    }

    -- the followers were drawn the same, or the others
    passed_on : (old new : Sharing) (o : Option Lead) → old.lead ≡ o → IsShared t old → PassesOn o old new
        → IsShared u new
    passed_on old new None at is passes = subst (IsShared u) (sym passes) (record {
      known = is.known;
      alike = know_still is.known old.alike.items is.alike;
      lead = subst (IsLeadIfAny u is.known old.followers.items) (sym at) tt;
    })
    passed_on old new (Some l) at is passes =
        let lead : IsLead t is.known old.followers.items l = subst (IsLeadIfAny t is.known old.followers.items) at
        is.lead
        in elim passes.1 [
          | inl followed ↦ left_alike new (Some l.frame.view) old.followers.items passes.0 lead.follow followed
          | inr stayed ↦ left_alike new is.known old.alike.items passes.0 is.alike stayed
        ]

module _ (t : Tables) (e : Entry) (sound : AreSound t) (step : IsStep t e) (old mid new : Sharing) (is : IsShared t old)
  where
    -- after a step that leaves what was drawn
    passed_by : (event : EventValue) → e.event ≡ event
        → StayDrawn t.clients (drawn event e.effects (outcome t event).tables).clients → mid ≡ old
        → PassesOn mid.lead mid new → IsShared (after t e) new
    passed_by event at stay stays left =
        passed_on t (after t e) sound.clients_rise
        (subst (λ ev. StayDrawn t.clients (drawn ev e.effects (outcome t ev).tables).clients) (sym at) stay) old new
        old.lead refl is (subst (λ (s : Sharing). PassesOn s.lead s new) stays left)

    pub stay_shared : StayShared e.event old mid (after t e) → AreLeft e.reply e.event mid new
        → IsShared (after t e) new
    stay_shared stays left = by e.reply e.event refl refl stays left where
      by : (reply : Reply) (event : EventValue) → e.event ≡ event → e.reply ≡ reply
          → StayShared event old mid (after t e)
          → AreLeft reply event mid new → IsShared (after t e) new
      by (Err r) (Draw client) at replied stays left = subst (IsShared (after t e)) (sym left) stays
      by (Err r) event at replied stays left = subst (λ u. IsShared u new)
          (sym (refusals t e step (ap is_ok replied)).0)
          (subst (IsShared t) (sym (left ∙ stays)) is)
      by (Ok said) (Draw client) at replied stays left = subst (IsShared (after t e)) (sym left) stays
      by (Ok said) (Keys client bytes) at replied stays left = passed_by (Keys client bytes) at
          (keys_drawn t client bytes) stays left
      by (Ok said) (Command user number bytes) at replied stays left = passed_by (Command user number bytes) at
          (line_drawn t user number bytes) stays left
      by (Ok said) (Output window bytes) at replied stays left = passed_by (Output window bytes) at
          (output_drawn t window bytes) stays left
      by (Ok said) event at replied stays left = none_shared (after t e) new left.0 left.1
