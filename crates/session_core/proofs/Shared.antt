-- The shared frame stays right for its followers when a client forgets, joins or begins one.
use Rattle.session_core.proofs.Vocabulary.{◌≡◌, ◌≢◌, ℕ, Bool, true, false, not, List, [], ◌∷◌, Option, Some, None, refl}
use Rattle.session_core.proofs.Vocabulary.{ap, sym, ◌∙◌, subst, inl, inr, if◌then◌else◌, ◌==◌, ◌||◌, View, Made, Effect}
use Rattle.session_core.proofs.Vocabulary.{Tables, Client, client_at, granted_view, drawn_on, deliveries, serial_is}
use Rattle.session_core.proofs.Vocabulary.{with_same, with_other, is_equal, same_number, all_append, Lead, Knows}
use Rattle.session_core.proofs.Vocabulary.{Sharing, AllKnow, IsLead, IsLeadIfAny, IsShared, without, is_one_of, Joins}
use Rattle.session_core.proofs.Vocabulary.{SharesOrForgets}
use Rattle.redraw.specs.Shadow.{Knowledge}
use Rattle.session_view.specs.Viewed.{IsGranted}
use Rattle.session_view.specs.Drawn.{LeadsOn}
use Rattle.session_view.specs.Following.{Leads, IsLed}
use Rattle.session_core.specs.Sharing.{Forgets, Begins}
use Rattle.session_core.proofs.Needless.{serial_of, shown, now, view_same, back}

-- one of some clients that were drawn one thing
pub one_knows : (t : Tables) (known : Option View) (clients : List ℕ) (n : ℕ) → is_one_of n clients ≡ true
    → AllKnow t known clients → Knows t known n
one_knows t known [] n one all = absurd (cc (one))
one_knows t known (m ∷ clients) n one all = on (n == m) refl one (one_knows t known clients n) where
  on : (b : Bool) → (n == m) ≡ b → (b || is_one_of n clients) ≡ true
      → (is_one_of n clients ≡ true → AllKnow t known clients → Knows t known n) → Knows t known n
  on true same one more = subst (Knows t known) (sym (is_equal n m same)) all.0
  on false differs one more = more one all.1

-- ---- once a client was drawn

module _ (t : Tables) (c : Client) (own : client_at t c.serial ≡ Some c) (bytes : List ℕ) where
  abbrev then_ : Tables
  then_ = now t c own bytes

  own_row : client_at then_ c.serial ≡ Some (shown t c own bytes)
  own_row = with_same serial_of t.clients c.serial c (shown t c own bytes) own refl

  knows_other : (known : Option View) (n : ℕ) → (n == c.serial) ≡ false → Knows t known n → Knows then_ known n
  knows_other known n differs knows =
      let other : n ≢ c.serial = λ same. absurd (cc (ap (λ m. n == m) (sym same) ∙ same_number n, differs)) in
      λ d at. knows d (sym (with_other serial_of t.clients c.serial n (shown t c own bytes) refl other) ∙ at)

  -- the others are known to have been drawn what they were
  others_know : (known : Option View) (ns : List ℕ) → AllKnow t known ns → AllKnow then_ known (without c.serial ns)
  others_know known [] all = tt
  others_know known (n ∷ ns) all = on (n == c.serial) refl (others_know known ns all.1) where
    on : (b : Bool) → (n == c.serial) ≡ b → AllKnow then_ known (without c.serial ns)
        → AllKnow then_ known (if not b then n ∷ without c.serial ns else without c.serial ns)
    on true same rest = rest
    on false differs rest = (knows_other known n differs all.0, rest)

  -- the client is known to have been drawn what it is granted to see
  own_knows : Knows then_ (Some (granted_view t c)) c.serial
  own_knows = λ d at. let e : shown t c own bytes ≡ d = cc (own_row, at) in ap (λ (x : Client). x.drawn) (sym e)

  -- what clients are granted to see stays
  granted_still : (d : Client) (v : View) → IsGranted t d v → IsGranted then_ d v
  granted_still d v is = record
      { granted = is.granted ∙ sym (view_same t c own bytes d); drawable = is.drawable; size = is.size }

  granted_shown : (v : View) → IsGranted t c v → IsGranted then_ (shown t c own bytes) v
  granted_shown v is = record
      { granted = is.granted ∙ sym (view_same t c own bytes c); drawable = is.drawable; size = is.size }

  led_still : (l : Lead) → IsLed t l → IsLed then_ l
  led_still l led = on (l.client == c.serial) refl where
    on : (b : Bool) → (l.client == c.serial) ≡ b → IsLed then_ l
    on true same =
        let serial : l.client ≡ c.serial = is_equal l.client c.serial same in
        let is : Leads t c l = led c (ap (client_at t) serial ∙ own) in
        λ d at. let e : shown t c own bytes ≡ d = cc (own_row, ap (client_at then_) (sym serial) ∙ at) in
        subst (λ (x : Client). Leads then_ x l) e
        (record { granted = granted_shown l.frame.view is.granted; rows = is.rows; columns = is.columns })
    on false differs =
        let other : l.client ≢ c.serial = λ same. absurd
        (cc (ap (λ m. l.client == m) (sym same) ∙ same_number l.client, differs)) in
        λ d at. let is : Leads t d l = led d
        (sym (with_other serial_of t.clients c.serial l.client (shown t c own bytes) refl other) ∙ at) in
        record { granted = granted_still d l.frame.view is.granted; rows = is.rows; columns = is.columns }

  lead_still : (known : Option View) (followers : List ℕ) (o : Option Lead) → IsLeadIfAny t known followers o
      → IsLeadIfAny then_ known (without c.serial followers) o
  lead_still known followers None is = tt
  lead_still known followers (Some l) is = record
      { led = led_still l is.led; before = is.before; follow = others_know (Some l.frame.view) followers is.follow }

  -- the client isn't among them any more
  forgotten : (old new : Sharing) → IsShared t old → Forgets c.serial old new → IsShared then_ new
  forgotten old new is f = record {
    known = is.known;
    alike = subst (AllKnow then_ is.known) (sym f.alike) (others_know is.known old.alike.items is.alike);
    lead = subst (IsLeadIfAny then_ is.known new.followers.items) (sym f.lead)
        (subst (λ ns. IsLeadIfAny then_ is.known ns old.lead) (sym f.followers)
        (lead_still is.known old.followers.items old.lead is.lead));
  }

  -- it follows the frame
  joined : (old new : Sharing) (l : Lead) → IsShared t old → old.lead ≡ Some l → l.frame.view ≡ granted_view t c
      → Joins c.serial old new → IsShared then_ new
  joined old new l is at view j =
      let lead : IsLead then_ is.known (without c.serial old.followers.items) l =
      lead_still is.known old.followers.items (Some l) (subst (IsLeadIfAny t is.known old.followers.items) at is.lead)
      in
      let its : Knows then_ (Some l.frame.view) c.serial = subst (λ v. Knows then_ (Some v) c.serial) (sym view)
      own_knows in
      let follow : AllKnow then_ (Some l.frame.view) new.followers.items = elim j.followers [
        | inl more ↦ subst (AllKnow then_ (Some l.frame.view)) (sym more)
            (all_append (Knows then_ (Some l.frame.view)) (without c.serial old.followers.items) (c.serial ∷ [])
            lead.follow (its, tt))
        | inr same ↦ subst (AllKnow then_ (Some l.frame.view)) (sym same) lead.follow
      ] in record {
        known = is.known;
        alike = subst (AllKnow then_ is.known) (sym j.alike) (others_know is.known old.alike.items is.alike);
        lead = subst (IsLeadIfAny then_ is.known new.followers.items) (sym (j.lead ∙ at))
            (record { led = lead.led; before = lead.before; follow = follow });
      }

  -- the client's frame is the one that others follow
  begun_with : (old new : Sharing) (l : Lead) → IsShared t old → l.client ≡ c.serial → LeadsOn t c l.frame
      → Begins l old new → IsShared then_ new
  begun_with old new l is client on b =
      let known : l.frame.before.known ≡ c.drawn = ap (λ (k : Knowledge). k.known) on.before in
      let its : Knows then_ (Some l.frame.view) l.client =
      subst (Knows then_ (Some l.frame.view)) (sym client)
      (subst (λ v. Knows then_ (Some v) c.serial) (sym on.granted.granted) own_knows) in record {
        known = l.frame.before.known;
        alike = elim b.alike [
          | inl own_one ↦ one own_one.0 own_one.1
          | inr none ↦ subst (AllKnow then_ l.frame.before.known) (sym none) tt
        ];
        lead = subst (IsLeadIfAny then_ l.frame.before.known new.followers.items) (sym b.lead) (record {
          led = λ d at.
              let e : shown t c own bytes ≡ d = cc (own_row, ap (client_at then_) (sym client) ∙ at) in
              subst (λ (x : Client). Leads then_ x l) e (record {
                granted = granted_shown l.frame.view on.granted;
                rows = ap (λ (k : Knowledge). k.rows) on.before;
                columns = ap (λ (k : Knowledge). k.columns) on.before;
              });
          before = refl;
          follow = elim b.followers [
            | inl one ↦ subst (AllKnow then_ (Some l.frame.view)) (sym one) (its, tt)
            | inr none ↦ subst (AllKnow then_ (Some l.frame.view)) (sym none) tt
          ];
        });
      } where
        one : is_one_of l.client old.alike.items ≡ true → new.alike.items ≡ without l.client old.alike.items
            → AllKnow then_ l.frame.before.known new.alike.items
        one among alike =
            let same : l.frame.before.known ≡ is.known =
            ap (λ (k : Knowledge). k.known) on.before
            ∙ one_knows t is.known old.alike.items l.client among is.alike c (ap (client_at t) client ∙ own) in
            subst (AllKnow then_ l.frame.before.known) (sym (alike ∙ ap (λ n. without n old.alike.items) client))
            (subst (λ k. AllKnow then_ k (without c.serial old.alike.items)) (sym same)
            (others_know is.known old.alike.items is.alike))

-- ---- a draw

module _ (t : Tables) (client : ℕ) (c : Client) (at : client_at t client ≡ Some c) where
  serial : c.serial ≡ client
  serial = serial_is serial_of t.clients client c at

  own_at : client_at t c.serial ≡ Some c
  own_at = ap (client_at t) serial ∙ at

  -- the client needed none
  pub none_shared : (effects : List Effect) (s : Sharing) → effects ≡ [] → IsShared t s
      → IsShared (drawn_on (Some c) effects t) s
  none_shared effects s none is = subst (λ u. IsShared u s)
      (sym (ap (λ es. drawn_on (Some c) es t) none ∙ back t client c at)) is

  pub joined_shared : (effects : List Effect) (old new : Sharing) (l : Lead) → (effects ≡ [] → ⊥) → IsShared t old
      → old.lead ≡ Some l → l.frame.view ≡ granted_view t c
      → Joins client old new → IsShared (drawn_on (Some c) effects t) new
  joined_shared [] old new l some is lead view j = absurd (some refl)
  joined_shared (f ∷ effects) old new l some is lead view j =
      joined t c own_at (deliveries (f ∷ effects) c.serial) old new l is lead view
      (subst (λ n. Joins n old new) (sym serial) j)

  pub own_shared : (effects : List Effect) (old new : Sharing) (f : Made) → (effects ≡ [] → ⊥) → IsShared t old
      → LeadsOn t c f
      → SharesOrForgets client f old new → IsShared (drawn_on (Some c) effects t) new
  own_shared [] old new f some is on how = absurd (some refl)
  own_shared (e ∷ effects) old new f some is on (inl b) =
      begun_with t c own_at (deliveries (e ∷ effects) c.serial) old new (record { client = client; frame = f }) is
      (sym serial) on b
  own_shared (e ∷ effects) old new f some is on (inr gone) =
      forgotten t c own_at (deliveries (e ∷ effects) c.serial) old new is
      (subst (λ n. Forgets n old new) (sym serial) gone)
