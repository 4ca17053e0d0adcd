-- Each step leaves the owner and the edition, and gives the next serials to what it attaches and
-- opens.
use Rattle.hub_trail.proofs.Vocabulary.{◌≡◌, ◌∙◌, List, [], Option, Some, None, Ok, refl, ap, subst, sym, take, Effect}
use Rattle.hub_trail.proofs.Vocabulary.{Refusal, EventValue, Attach, Open, Draw, Reply, Tables, Client, client_at}
use Rattle.hub_trail.proofs.Vocabulary.{with_client, Caller, line_caller, Deed, does, taken, Outcome, refused, done}
use Rattle.hub_trail.proofs.Vocabulary.{outcome, IsStep, drawn, Either}
use Rattle.command_lang.specs.declared.command.Command.{Command as Order}
use Rattle.session.specs.Trace.{Entry}
use Rattle.session.specs.Run.{drawn_on}
use Rattle.session.proofs.Outcomes as outcomes
use Rattle.hub_trail.specs.Peers.{MakesNext, one_more, GivesSerials}
use Rattle.hub_trail.specs.Peers as peers
use Rattle.hub_trail.proofs.Rules.{Rules, rules, Still, stills}
use Rattle.hub_trail.proofs.Entries.{keys_ordered}

-- the next serials, after what a step attached or opened got one
abbrev pub grown : Tables → EventValue → Reply → Rules
grown t event reply = (
  t.owner,
  t.edition,
  one_more (peers.opens event reply) t.next_window,
  one_more (peers.attaches event reply)
      t.next_client,
)

abbrev pub Grows : Tables → EventValue → Outcome → Type 0
Grows t event o = (rules o.tables ≡ grown t event o.reply) × MakesNext t event o.reply

deed_still : (t : Tables) (k : Caller) (c : Order) (d : Deed) → does t k c ≡ Ok d → rules d.tables ≡ rules t
deed_still t k c d is = subst (Either (Still t)) is (stills t k c)

-- a refused step, and one that changes one row, attach and open nothing
none_come : (t : Tables) (event : EventValue) (r : Refusal) → Grows t event (refused t [] r)
none_come t (Attach user rows columns) r = (refl, tt)
none_come t event r = (refl, tt)

same_rules : (t u : Tables) (event : EventValue) (x : outcomes.Change) → outcomes.change_of event ≡ Some x
    → rules u ≡ rules t → (rules u ≡ grown t event done) × MakesNext t event done
same_rules t u (Attach user rows columns) x is same = absurd (cc (is))
same_rules t u (Open user rows columns keep title) x is same = absurd (cc (is))
same_rules t u event x is same = (same, tt)

happened : (t : Tables) (event : EventValue) (o : Outcome) → outcomes.Happens t event o → Grows t event o
happened t _ _ (outcomes.failed event vs r why) = none_come t event r
happened t _ _ (outcomes.changed event x c is f at) = same_rules t (with_client t (x.row c)) event x is refl
happened t _ _ (outcomes.attached user rows columns passes) = (refl, refl)
happened t _ _ (outcomes.detached client c at) = (refl, tt)
happened t _ _ (outcomes.keyed client bytes c at) =
    ((keys_ordered t client c (take (taken c.keys bytes) bytes) at).still, tt)
happened t _ _ (outcomes.obeyed user number bytes c d known read passes is) =
    (deed_still t (line_caller t user number) c d is, tt)
happened t _ _ (outcomes.opened user rows columns keep title passes) = (refl, refl)
happened t _ _ (outcomes.wrote window bytes w at) = (refl, tt)
happened t _ _ (outcomes.closed window w at) = (refl, tt)
happened t _ _ (outcomes.drew client c at) = (refl, tt)

pub grows : (t : Tables) (event : EventValue) → Grows t event (outcome t event)
grows t event = happened t event (outcome t event) (outcomes.happens t event)

drawn_rules : (o : Option Client) (effects : List Effect) (t : Tables) → rules (drawn_on o effects t) ≡ rules t
drawn_rules None effects t = refl
drawn_rules (Some c) effects t = refl

pub rules_after : (t : Tables) (event : EventValue) (effects : List Effect)
    → rules (drawn event effects (outcome t event).tables) ≡ grown t event (outcome t event).reply
rules_after t (Draw client) effects =
    let u : Tables = (outcome t (Draw client)).tables in drawn_rules (client_at u client) effects u
    ∙ (grows t (Draw client)).0
rules_after t event effects = (grows t event).0

pub gives_serials : (t : Tables) (e : Entry) → IsStep t e → GivesSerials t e
gives_serials t e step =
    let same : grown t e.event (outcome t e.event).reply ≡ grown t e.event e.reply = ap (grown t e.event)
    (sym step.reply) in
    record {
      clients = ap (λ (x : Rules). x.3) (rules_after t e.event e.effects ∙ same);
      windows = ap (λ (x : Rules). x.2) (rules_after t e.event e.effects ∙ same);
      made = subst (MakesNext t e.event) (sym step.reply) (grows t e.event).1;
    }
