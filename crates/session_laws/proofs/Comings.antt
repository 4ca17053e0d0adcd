-- Which windows a step opens, and what users have on them.
use Rattle.session_laws.proofs.Vocabulary.{◌≡◌, ℕ, ◌+◌, Bool, true, false, List, Some, None, Ok, Err, refl, ap, sym}
use Rattle.session_laws.proofs.Vocabulary.{◌∙◌, inl, inr, ◌||◌, ◌⊎◌, is_ok, Option, UserId, Act, Bit, Execute}
use Rattle.session_laws.proofs.Vocabulary.{same_user, mask, Effect, Verdict, Tables, Window, Client, client_at}
use Rattle.session_laws.proofs.Vocabulary.{is_known, may_in, has_in, first_fault, verdicts, outcome, Given, commands_of}
use Rattle.session_laws.proofs.Vocabulary.{Outcome, reply_of, done, open_checks, opens, new_window, IsStep, after}
use Rattle.session_laws.proofs.Vocabulary.{drawn_on, EventValue, Keys, Command, Open, Draw, Reply, Entry, some_gives}
use Rattle.session_laws.proofs.Vocabulary.{both_true, may_open}
use Rattle.acl.specs.declared.command_name.CommandName.TheVariants as name
use Rattle.acl.specs.declared.act.Object.TheVariants as object
use Rattle.session_laws.proofs.Outcomes as outcomes
use Rattle.session_laws.proofs.CommandActs.{IsRow}
use Rattle.session_laws.proofs.Steps.{Did, with_clients}
use Rattle.session_laws.proofs.Events.{gives_commands, is_open}
use Rattle.session_laws.proofs.Gating.{Below, Steps, row_did, first_passed, then_passed}
use Rattle.session_laws.proofs.Masking.{given_by_masks}

-- ---- an Open

abbrev OpensRightly : Tables → UserId → Outcome → Type 0
OpensRightly t opener o = is_ok o.reply ≡ true → (may_open t opener ≡ true) × (o.tables.next_window ≡ t.next_window + 1)

opens_rightly : (t : Tables) (opener : UserId) (rows columns keep : ℕ) (title : List ℕ)
    → OpensRightly t opener (outcome t (Open opener rows columns keep title))
opens_rightly t opener rows columns keep title =
    let v : Window = new_window t rows columns keep title in
    outcomes.passed (OpensRightly t opener) t (verdicts t (open_checks t opener rows columns keep title))
    (first_fault t (open_checks t opener rows columns keep title)) (reply_of 0 v.serial v.number None)
    (opens t opener v)
    (λ r is ok. absurd (cc (ok)))
    (λ is ok. (
      both_true (is_known t opener) (may_in t opener Execute (object.Command name.Screen))
          (first_passed (is_known t opener) _ _ is)
          (first_passed (may_in t opener Execute (object.Command name.Screen)) _ _
          (then_passed (is_known t opener) _ _ is)),
      refl,
    ))

abbrev SameNext : Tables → Outcome → Type 0
SameNext t o = o.tables.next_window ≡ t.next_window

abbrev RefusedOpens : Tables → Outcome → Type 0
RefusedOpens t o = is_ok o.reply ≡ false → SameNext t o

refused_opens : (t : Tables) (opener : UserId) (rows columns keep : ℕ) (title : List ℕ)
    → RefusedOpens t (outcome t (Open opener rows columns keep title))
refused_opens t opener rows columns keep title =
    let v : Window = new_window t rows columns keep title in
    outcomes.passed (RefusedOpens t) t (verdicts t (open_checks t opener rows columns keep title))
    (first_fault t (open_checks t opener rows columns keep title)) (reply_of 0 v.serial v.number None)
    (opens t opener v)
    (λ r is not. refl) (λ is not. absurd (cc (not)))

-- ---- the other events

next_of : (t : Tables) (event : EventValue) (o : Outcome) → outcomes.Happens t event o → gives_commands event ≡ false
    → is_open event ≡ false → SameNext t o
next_of t _ _ (outcomes.keyed client bytes c at) not other = absurd (cc (not))
next_of t _ _ (outcomes.obeyed user number bytes c d known read passes is) not other = absurd (cc (not))
next_of t _ _ (outcomes.opened user rows columns keep title passes) not other = absurd (cc (other))
next_of t _ _ h not other = refl

other_next : (t : Tables) (event : EventValue) → gives_commands event ≡ false → is_open event ≡ false
    → SameNext t (outcome t event)
other_next t event not other = next_of t event (outcome t event) (outcomes.happens t event) not other

-- ---- every step

-- the window that a step opens, and what users have on it
pub record Opens (t : Tables) (e : Entry) : Type 0 where
  pub opener : UserId
  pub may : may_open t opener ≡ true
  pub next : (after t e).next_window ≡ t.next_window + 1
  pub given : (user : UserId) (bit : Bit) → is_known t user ≡ true
      → has_in (after t e) user bit (object.Window t.next_window) ≡
      (same_user opener user || mask t.acts opener user bit)

abbrev pub Comes : Tables → Entry → Type 0
Comes t e = ((after t e).next_window ≡ t.next_window) ⊎ Opens t e

drawn_next : (n : ℕ) (o : Option Client) (effects : List Effect) (u : Tables) → u.next_window ≡ n
    → (drawn_on o effects u).next_window ≡ n
drawn_next n None effects u is = is
drawn_next n (Some c) effects u is = is

event_comes : (t : Tables) (event : EventValue) (reply : Reply) (acts : List Act) (vs : List Verdict)
    (effects : List Effect)
    → let e : Entry = record { event = event; reply = reply; acts = acts; verdicts = vs; effects = effects } in IsStep t
    e → gives_commands event ≡ false → Comes t e
event_comes t (Open opener rows columns keep title) (Ok done) acts vs effects step not =
    let rightly : OpensRightly t opener (outcome t (Open opener rows columns keep title)) = opens_rightly t opener rows
    columns keep title in
    let ok : is_ok (outcome t (Open opener rows columns keep title)).reply ≡ true = ap is_ok (sym step.reply) in
    inr (record {
      opener = opener;
      may = (rightly ok).0;
      next = (rightly ok).1;
      given = given_by_masks t
          (Open opener rows columns keep title) (Ok done) acts vs effects step;
    })
event_comes t (Open opener rows columns keep title) (Err r) acts vs effects step not =
    inl (refused_opens t opener rows columns keep title (ap is_ok (sym step.reply)))
event_comes t (Draw client) reply acts vs effects step not =
    let u : Tables = (outcome t (Draw client)).tables in inl
    (drawn_next t.next_window (client_at u client) effects u (other_next t (Draw client) refl refl))
event_comes t (Keys client bytes) reply acts vs effects step not = absurd (cc (not))
event_comes t (Command user number bytes) reply acts vs effects step not = absurd (cc (not))
event_comes t event reply acts vs effects step not = inl (other_next t event refl refl)

did_next : (t : Tables) (e : Entry) (g : Given) → Did t e g → (after t e).next_window ≡ t.next_window
did_next t e g d = let r : IsRow (with_clients t d.clients) g.caller g.order d.deed = row_did t e g d in
    d.tables.next_window ∙ r.next_window

pub comes : Below → (t : Tables) (e : Entry) → IsStep t e → Comes t e
comes laws t e step = on (gives_commands e.event) refl where
  obeys : Rattle.session_laws.proofs.Steps.Obeys t e → Comes t e
  obeys (inl rests) = inl rests.tables.next_window
  obeys (inr some) = inl
      (some_gives (Did t e) ((after t e).next_window ≡ t.next_window) (commands_of t e.event) (did_next t e) some)

  on : (b : Bool) → gives_commands e.event ≡ b → Comes t e
  on true is = obeys (Rattle.session_laws.proofs.Gating.obeys_of laws t e step is)
  on false is = event_comes t e.event e.reply e.acts e.verdicts e.effects step is
