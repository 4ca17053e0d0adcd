-- A client that the session knows to need no draw is drawn nothing, and knows so after each step.
use Rattle.session_core.proofs.Vocabulary.{◌≡◌, ◌≢◌, ℕ, ◌++◌, Bool, true, false, List, [], ◌∷◌, Option, Some, None, Ok}
use Rattle.session_core.proofs.Vocabulary.{Err, map, refl, ap, sym, ◌∙◌, subst, inl, inr, append-nil, if◌then◌else◌}
use Rattle.session_core.proofs.Vocabulary.{◌==◌, ◌||◌, MatchOption, is_ok, list_any, followed_by, items, View, Effect}
use Rattle.session_core.proofs.Vocabulary.{NoWindow, EventValue, Draw, Entry, Reply, Tables, Client, client_at}
use Rattle.session_core.proofs.Vocabulary.{with_client, row_of, granted_view, changing, Outcome, finished, refused}
use Rattle.session_core.proofs.Vocabulary.{done, outcome, IsDraw, IsStep, HasEffects, drawn, drawn_on, after}
use Rattle.session_core.proofs.Vocabulary.{deliveries, serial_is, with_same, with_other, is_equal, same_number}
use Rattle.session_core.proofs.Vocabulary.{none_left, all_append, all_weaken, refusals, AreDrawn, AreNoted}
use Rattle.std.specs.Prelude.{codes, nat_eq}
use Rattle.terminal_model.specs.Shows.{ShowsFromAny, LooksLike, NeedsNoDraw}
use Rattle.view.specs.Granted.{view_in}
use Rattle.session_model.specs.declared.event.StatusMessage.{StatusMessage}
use Rattle.session_model.specs.declared.event.StatusMessage.TheVariants as message
use Rattle.session_model.specs.Tables.{with_row}
use Rattle.session_model.specs.Texts.{separated, client_item}
use Rattle.session_model.specs.Keying.{open_line}
use Rattle.session_model.specs.Granted.{part_shown, layout_of, message_text, status_text}
use Rattle.windows_model.proofs.Serials.{with_back}
use Rattle.session_laws.proofs.Outcomes as outcomes
use Rattle.session_core.specs.Drawn.{IsDrawn}

abbrev pub serial_of : Client → ℕ
serial_of c = c.serial

-- ---- views, once a client was drawn

-- what is read of each row stays as it is, if the new row has it too
map_row : {B : Type 0} (f : Client → B) (cs : List Client) (s : ℕ) (c d : Client) → row_of serial_of cs s ≡ Some c
    → f d ≡ f c
    → map f (with_row serial_of cs s d) ≡ map f cs
map_row f [] s c d at same = refl
map_row f (r ∷ cs) s c d at same = on (r.serial == s) at (map_row f cs s c d) where
  on : (b : Bool) → (if b then Some r else row_of serial_of cs s) ≡ Some c
      → (row_of serial_of cs s ≡ Some c → f d ≡ f c → map f (with_row serial_of cs s d) ≡ map f cs)
      → map f (if b then d ∷ cs else r ∷ with_row serial_of cs s d) ≡ map f (r ∷ cs)
  on true at more = let e : r ≡ c = cc (at) in ap (λ x. x ∷ map f cs) (same ∙ ap f (sym e))
  on false at more = ap (λ xs. f r ∷ xs) (more at same)

looks_itself : (v : View) → LooksLike v v
looks_itself v = record { cells = λ line column. refl; cursor = refl; arrows = refl; keypad = refl }

module _ (t : Tables) (c : Client) (own : client_at t c.serial ≡ Some c) (bytes : List ℕ) where
  -- the client and the tables then
  abbrev pub shown : Client
  shown = record c { delivered = c.delivered ++ bytes; drawn = Some (granted_view t c) }

  abbrev pub now : Tables
  now = with_client t shown

  message_same : (d : Client) (m : StatusMessage) → message_text now d m ≡ message_text t d m
  message_same d message.Silence = refl
  message_same d (message.Text said) = refl
  message_same d message.AllWindows = refl
  message_same d message.AllClients = ap (separated (codes "  "))
      (map_row (client_item t) t.clients c.serial c shown own refl)

  status_same : (d : Client) → status_text now d ≡ status_text t d
  status_same d = on (open_line (items d.keys).1) where
    on : (o : Option (List ℕ))
        → elim o as (λ _. List ℕ) [ Some line ↦ 0x3A ∷ line | None ↦ message_text now d d.message ] ≡ elim o as
        (λ _. List ℕ) [ Some line ↦ 0x3A ∷ line | None ↦ message_text t d d.message ]
    on (Some line) = refl
    on None = message_same d d.message

  pub view_same : (d : Client) → granted_view now d ≡ granted_view t d
  view_same d = ap (view_in (layout_of d) (map (part_shown t d.user) d.layout.shown)) (status_same d)

  -- ---- draws, once it was drawn

  draw_same : (d : Client) → IsDraw t [] d → IsDraw now [] d
  draw_same d is = record {
    drawn = subst (NeedsNoDraw d.drawn) (sym (view_same d)) is.drawn;
    shows = subst (ShowsFromAny (d.delivered ++ []) d.rows d.columns) (sym (view_same d)) is.shows;
  }

  drawn_now : ShowsFromAny (c.delivered ++ bytes) c.rows c.columns (granted_view t c) → IsDrawn now c.serial
  drawn_now shows =
      let at : client_at now c.serial ≡ Some shown = with_same serial_of t.clients c.serial c shown own refl in
      let is : IsDraw now [] shown = record {
        drawn = subst (LooksLike (granted_view t c)) (sym (view_same c)) (looks_itself (granted_view t c));
        shows = subst (ShowsFromAny ((c.delivered ++ bytes) ++ []) c.rows c.columns) (sym (view_same c))
            (subst (λ all. ShowsFromAny all c.rows c.columns (granted_view t c))
            (sym (append-nil (c.delivered ++ bytes))) shows);
      } in subst (λ o. MatchOption o ⊥ (IsDraw now [])) (sym at) is

  stays_drawn : (n : ℕ) → IsDrawn now c.serial → IsDrawn t n → IsDrawn now n
  stays_drawn n its is = on (n == c.serial) refl where
    still : (o : Option Client) → MatchOption o ⊥ (IsDraw t []) → MatchOption o ⊥ (IsDraw now [])
    still None is = is
    still (Some d) is = draw_same d is

    on : (b : Bool) → (n == c.serial) ≡ b → IsDrawn now n
    on true same = subst (IsDrawn now) (sym (is_equal n c.serial same)) its
    on false differs =
        let other : n ≢ c.serial = λ same. absurd (cc (ap (λ m. n == m) (sym same) ∙ same_number n, differs)) in
        subst (λ o. MatchOption o ⊥ (IsDraw now [])) (sym (with_other serial_of t.clients c.serial n shown refl other))
        (still (client_at t n) is)

-- ---- draws

module _ (t : Tables) (client : ℕ) where
  abbrev outcome_of : Option Client → Outcome
  outcome_of o = elim o as (λ _. Outcome) [ None ↦ refused t [] NoWindow | Some c ↦ finished t [] done (changing t) ]

  quiet : (outcome t (Draw client)).tables ≡ t
  quiet = outcomes.found (λ o. o.tables ≡ t) t (λ c. finished t [] done (changing t)) (client_at t client) refl
      (λ c is. ap (λ acts. record t { acts = followed_by t.acts acts }) (none_left t.clients))

  drawn_after : (effects : List Effect)
      → drawn (Draw client) effects (outcome t (Draw client)).tables ≡ drawn_on (client_at t client) effects t
  drawn_after effects = ap (λ u. drawn_on (client_at u client) effects u) quiet

  pub back : (c : Client) → client_at t client ≡ Some c → drawn_on (Some c) [] t ≡ t
  back c at =
      let own : client_at t c.serial ≡ Some c = ap (client_at t) (serial_is serial_of t.clients client c at) ∙ at in
      ap (λ cs. record t { clients = cs }) (with_back serial_of t.clients c.serial c own)

  -- the client needs none then, and the others that needed none still don't
  after_draw : (c : Client) (effects : List Effect) → client_at t client ≡ Some c → IsDraw t effects c
      → IsDrawn (drawn_on (Some c) effects t) client × ((n : ℕ) → IsDrawn t n → IsDrawn (drawn_on (Some c) effects t) n)
  after_draw c [] at is =
      let none : IsDrawn t client = subst (λ o. MatchOption o ⊥ (IsDraw t [])) (sym at) is in
      (subst (λ u. IsDrawn u client) (sym (back c at)) none, λ n its. subst (λ u. IsDrawn u n) (sym (back c at)) its)
  after_draw c (f ∷ effects) at is =
      let serial : c.serial ≡ client = serial_is serial_of t.clients client c at in
      let own : client_at t c.serial ≡ Some c = ap (client_at t) serial ∙ at in
      let bytes : List ℕ = deliveries (f ∷ effects) c.serial in
      let its : IsDrawn (now t c own bytes) c.serial = drawn_now t c own bytes is.shows in
      (subst (IsDrawn (now t c own bytes)) serial its, λ n was. stays_drawn t c own bytes n its was)

  -- a draw of a client that needs none delivers nothing and changes nothing
  abbrev needless : Entry
  needless = record { event = Draw client; reply = done; acts = []; verdicts = []; effects = [] }

  is_needless : (o : Option Client) → client_at t client ≡ o → MatchOption o ⊥ (IsDraw t []) → IsStep t needless
      × (after t needless ≡ t)
  is_needless None at is = absurd is
  is_needless (Some c) at is =
      let comes : outcome t (Draw client) ≡ finished t [] done (changing t) = ap outcome_of at in (
        record {
          reply = sym (ap (λ (o : Outcome). o.reply) comes);
          acts = sym (ap (λ (o : Outcome). o.acts) comes ∙ none_left t.clients);
          verdicts = sym (ap (λ (o : Outcome). o.verdicts) comes);
          effects = subst (λ o. MatchOption o (let none : List Effect = [] in none ≡ []) (IsDraw t [])) (sym at) is;
        },
        drawn_after [] ∙ ap (λ o. drawn_on o [] t) at ∙ back c at,
      )

  pub needs_none : IsDrawn t client → IsStep t needless × (after t needless ≡ t)
  needs_none is = is_needless (client_at t client) refl is

-- ---- steps

module _ (t : Tables) (e : Entry) (step : IsStep t e) (old new : List ℕ) (all : AreDrawn t old) where
  noted_draw : (client : ℕ) (o : Option Client) (u : Tables) → client_at t client ≡ o
      → MatchOption o (e.effects ≡ []) (IsDraw t e.effects)
      → is_ok (outcome_of t client o).reply ≡ true → AreNoted done (Draw client) old new → u ≡ drawn_on o e.effects t
      → AreDrawn u new
  noted_draw client None u at is answered noted tables = absurd (cc (answered))
  noted_draw client (Some c) u at is answered noted tables =
      let both = after_draw t client c e.effects at is in
      let v : Tables = drawn_on (Some c) e.effects t in
      let kept : AreDrawn v old = all_weaken (IsDrawn t) (IsDrawn v) old both.1 all in
      subst (λ w. AreDrawn w new) (sym tables) (elim noted [
        | inl more ↦ subst (AreDrawn v) (sym more) (all_append (IsDrawn v) old (client ∷ []) kept (both.0, tt))
        | inr same ↦ subst (AreDrawn v) (sym same) kept
      ])

  pub stay_drawn : AreNoted e.reply e.event old new → AreDrawn (after t e) new
  stay_drawn noted = by e.reply e.event refl refl noted where
    by : (reply : Reply) (event : EventValue) → e.event ≡ event → e.reply ≡ reply → AreNoted reply event old new
        → AreDrawn (after t e) new
    by (Err r) event at replied noted =
        let same : after t e ≡ t = (refusals t e step (ap is_ok replied)).0 in
        subst (λ u. AreDrawn u new) (sym same) (subst (AreDrawn t) (sym noted) all)
    by (Ok said) (Draw client) at replied noted =
        noted_draw client (client_at t client) (after t e) refl
        (subst (λ ev. HasEffects t ev e.effects) at step.effects)
        (ap (λ ev. is_ok (outcome t ev).reply) (sym at) ∙ ap is_ok (sym step.reply) ∙ ap is_ok replied) noted
        (ap (λ ev. drawn ev e.effects (outcome t ev).tables) at ∙ drawn_after t client e.effects)
    by (Ok said) event at replied noted = subst (AreDrawn (after t e)) (sym noted) tt

-- one of them
pub one_drawn : (t : Tables) (clients : List ℕ) (client : ℕ) → list_any (nat_eq client) clients ≡ true
    → AreDrawn t clients → IsDrawn t client
one_drawn t [] client any all = absurd (cc (any))
one_drawn t (n ∷ clients) client any all = on (client == n) refl any (one_drawn t clients client) where
  on : (b : Bool) → (client == n) ≡ b → (b || list_any (nat_eq client) clients) ≡ true
      → (list_any (nat_eq client) clients ≡ true → AreDrawn t clients → IsDrawn t client) → IsDrawn t client
  on true same any more = subst (IsDrawn t) (sym (is_equal client n same)) all.0
  on false differs any more = more any all.1
