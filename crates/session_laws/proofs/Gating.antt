-- Rights change only by a list command that is granted.
use Rattle.session_laws.proofs.Vocabulary.{◌≡◌, Bool, true, false, not, List, Option, Some, None, refl, ap, sym, ◌∙◌}
use Rattle.session_laws.proofs.Vocabulary.{subst, inl, inr, if◌then◌else◌, ◌⊎◌, Act, Execute, followed_by, Order}
use Rattle.session_laws.proofs.Vocabulary.{name_of, Effect, Verdict, Refusal, NotMultiuser, Tables, first_fault}
use Rattle.session_laws.proofs.Vocabulary.{checks_by, left_acts, Given, commands_of, Caller, needs, KeepsPromise}
use Rattle.session_laws.proofs.Vocabulary.{may_in, IsStep, after, EventValue, Keys, Command, Reply, Entry, some_or}
use Rattle.session_laws.proofs.Vocabulary.{KeysDoTheirRows, StepsKeepPromise, CommandsDoTheirRows, CommandsAreRefusedSo}
use Rattle.session_laws.proofs.Vocabulary.{contradicts, all_weaken, all_append, changes_rights, SameRights}
use Rattle.session_laws.proofs.Vocabulary.{MayChangeRights, RightsAreGated}
use Rattle.acl.specs.declared.act.Act.TheVariants as act
use Rattle.acl.specs.declared.act.Object.TheVariants as object
use Rattle.command_lang.specs.declared.command.Command.TheVariants as command
use Rattle.session_laws.proofs.Doing.{Either}
use Rattle.session_laws.proofs.Listing.{is_listing}
use Rattle.session_laws.proofs.Histories.{NoListing, same_rights}
use Rattle.session_laws.proofs.CommandActs.{IsActOf, IsRow, row_of}
use Rattle.session_laws.proofs.Steps.{Did, Rests, Obeys, with_clients, keys_obeys, command_obeys}
use Rattle.session_laws.proofs.Events.{Plain, IsActIn, gives_commands, all_left, step_plain}

-- the laws of steps that are proved elsewhere
pub record Below : Type 0 where
  pub keep : StepsKeepPromise
  pub done : CommandsDoTheirRows
  pub refused : CommandsAreRefusedSo
  pub keyed : KeysDoTheirRows

pub below : StepsKeepPromise → CommandsDoTheirRows → CommandsAreRefusedSo → KeysDoTheirRows → Below
below keep done refused keyed = record { keep = keep; done = done; refused = refused; keyed = keyed }

-- ---- each event

abbrev pub Steps : Tables → Entry → Type 0
Steps t e = Plain t e.event e.acts (after t e) ⊎ Obeys t e

obeys_by : Below
    → (t : Tables) (event : EventValue) (reply : Reply) (acts : List Act) (vs : List Verdict) (effects : List Effect)
    → let e : Entry = record { event = event; reply = reply; acts = acts; verdicts = vs; effects = effects } in IsStep t
    e → gives_commands event ≡ true → Obeys t e
obeys_by laws t (Keys client bytes) reply acts vs effects step is =
    let e : Entry = record { event = Keys client bytes; reply = reply; acts = acts; verdicts = vs; effects = effects }
    in
    let kept : KeepsPromise t e = laws.keep t e step in
    keys_obeys t reply acts vs effects client bytes kept.refusals step.reply (laws.keyed t e step)
obeys_by laws t (Command user number bytes) reply acts vs effects step is =
    let e : Entry = record
    { event = Command user number bytes; reply = reply; acts = acts; verdicts = vs; effects = effects } in
    let kept : KeepsPromise t e = laws.keep t e step in
    command_obeys t reply acts vs effects user number bytes kept.refusals (laws.refused t e step) (laws.done t e step)
obeys_by laws t event reply acts vs effects step is = absurd (cc (is))

-- a step that gives commands does nothing, or does what one of them does
pub obeys_of : Below → (t : Tables) (e : Entry) → IsStep t e → gives_commands e.event ≡ true → Obeys t e
obeys_of laws t e step is = obeys_by laws t e.event e.reply e.acts e.verdicts e.effects step is

pub steps_of : Below → (t : Tables) (e : Entry) → IsStep t e → Steps t e
steps_of laws t e step = on (gives_commands e.event) refl where
  on : (b : Bool) → gives_commands e.event ≡ b → Steps t e
  on true is = inr (obeys_of laws t e step is)
  on false is = inl (step_plain t e step is)

pub row_did : (t : Tables) (e : Entry) (g : Given) → (d : Did t e g)
    → IsRow (with_clients t d.clients) g.caller g.order d.deed
row_did t e g d = subst (Either (IsRow (with_clients t d.clients) g.caller g.order)) d.does_it
    (row_of (with_clients t d.clients) g.caller d.by g.order)

-- ---- which acts are on lists

plain_listing : (t : Tables) (event : EventValue) (a : Act) → IsActIn t event a → is_listing a ≡ false
plain_listing t event (act.Known user) is = absurd is
plain_listing t event (act.Gone user) is = absurd is
plain_listing t event (act.Set user bit object value) is = absurd is
plain_listing t event (act.Grouped user leader) is = absurd is
plain_listing t event (act.Masked by user bit value) is = absurd is
plain_listing t event (act.Preset kind bit value) is = absurd is
plain_listing t event a is = refl

row_listing : (k : Caller) (c : Order) → changes_rights (name_of c) ≡ false → (a : Act) → IsActOf k c a
    → is_listing a ≡ false
row_listing k c not (act.Known user) is = contradicts (changes_rights (name_of c)) is not
row_listing k c not (act.Gone user) is = contradicts (changes_rights (name_of c)) is not
row_listing k c not (act.Set user bit object value) is = contradicts (changes_rights (name_of c)) is not
row_listing k c not (act.Grouped user leader) is = contradicts (changes_rights (name_of c)) is not
row_listing k c not (act.Masked by user bit value) is = contradicts (changes_rights (name_of c)) is not
row_listing k c not (act.Preset kind bit value) is = contradicts (changes_rights (name_of c)) is not
row_listing k c not a is = refl

pub did_listing : (t : Tables) (e : Entry) (g : Given) → changes_rights (name_of g.order) ≡ false → Did t e g
    → NoListing e.acts
did_listing t e g not d =
    let r : IsRow (with_clients t d.clients) g.caller g.order d.deed = row_did t e g d in
    subst NoListing (sym d.acts)
    (all_append (λ a. is_listing a ≡ false) d.deed.acts (left_acts t.clients d.deed.tables.clients)
    (all_weaken (IsActOf g.caller g.order) (λ a. is_listing a ≡ false) d.deed.acts (row_listing g.caller g.order not)
    r.acts)
    (all_left (λ a. is_listing a ≡ false) t.clients d.deed.tables.clients (λ user w. refl)))

-- ---- the first checks of a list command pass

pub first_passed : (b : Bool) (o : Option Refusal) (r : Refusal) → (if b then o else Some r) ≡ None → b ≡ true
first_passed true o r is = refl
first_passed false o r is = absurd (cc (is))

pub then_passed : (b : Bool) (o : Option Refusal) (r : Refusal) → (if b then o else Some r) ≡ None → o ≡ None
then_passed true o r is = is
then_passed false o r is = absurd (cc (is))

multiuser_passed : (t : Tables) (k : Caller) (c : Order) → changes_rights (name_of c) ≡ true
    → first_fault t (checks_by t k (needs c)) ≡ None → t.is_multiuser ≡ true
multiuser_passed t k (command.Acladd users) changes is = first_passed t.is_multiuser None NotMultiuser is
multiuser_passed t k (command.Aclchg users bits list) changes is = first_passed t.is_multiuser None NotMultiuser is
multiuser_passed t k (command.Acldel user) changes is = first_passed t.is_multiuser None NotMultiuser is
multiuser_passed t k (command.Aclgrp user leader) changes is = first_passed t.is_multiuser None NotMultiuser is
multiuser_passed t k (command.Aclumask masks) changes is = first_passed t.is_multiuser None NotMultiuser is
multiuser_passed t k c changes is = absurd (cc (changes))

-- a command that was done had x
pub had_x : (t : Tables) (e : Entry) (g : Given) → Did t e g
    → may_in t g.caller.user Execute (object.Command (name_of g.order)) ≡ true
had_x t e g d = first_passed (may_in t g.caller.user Execute (object.Command (name_of g.order)))
    (first_fault t (checks_by t g.caller (needs g.order))) _ d.passes

may_change : (t : Tables) (e : Entry) (g : Given) → changes_rights (name_of g.order) ≡ true → Did t e g
    → MayChangeRights t g
may_change t e g changes d = record {
  changes = changes;
  multiuser = multiuser_passed t g.caller g.order changes
      (then_passed (may_in t g.caller.user Execute (object.Command (name_of g.order)))
      (first_fault t (checks_by t g.caller (needs g.order))) _ d.passes);
  granted = had_x t e g d;
}

-- ---- the law

did_rights : (t : Tables) (e : Entry) (g : Given) → changes_rights (name_of g.order) ≡ false → Did t e g
    → SameRights t (after t e) e.acts
did_rights t e g not d =
    let r : IsRow (with_clients t d.clients) g.caller g.order d.deed = row_did t e g d in
    same_rights t (after t e) e.acts (d.tables.owner ∙ r.owner) (d.tables.edition ∙ r.edition) d.tables.acts
    (did_listing t e g not d)

pub rests_rights : (t : Tables) (e : Entry) → Rests t e → SameRights t (after t e) e.acts
rests_rights t e r =
    same_rights t (after t e) e.acts r.tables.owner r.tables.edition
    (r.tables.acts ∙ sym (ap (followed_by t.acts) r.acts)) (subst NoListing (sym r.acts) tt)

pub plain_rights : (t : Tables) (e : Entry) → Plain t e.event e.acts (after t e) → SameRights t (after t e) e.acts
plain_rights t e p = same_rights t (after t e) e.acts p.owner p.edition p.acts_are
    (all_weaken (IsActIn t e.event) (λ a. is_listing a ≡ false) e.acts (plain_listing t e.event) p.acts_in)

-- a command may change rights, or rights are unchanged
did_gated : (t : Tables) (e : Entry) (g : Given) → Did t e g → SameRights t (after t e) e.acts ⊎ MayChangeRights t g
did_gated t e g did = on (changes_rights (name_of g.order)) refl where
  on : (b : Bool) → changes_rights (name_of g.order) ≡ b → SameRights t (after t e) e.acts ⊎ MayChangeRights t g
  on true is = inr (may_change t e g is did)
  on false is = inl (did_rights t e g is did)

pub gated : Below → (t : Tables) (e : Entry) → IsStep t e → RightsAreGated t e
gated laws t e step = on (steps_of laws t e step) where
  on : Steps t e → RightsAreGated t e
  on (inl p) = inl (plain_rights t e p)
  on (inr (inl rests)) = inl (rests_rights t e rests)
  on (inr (inr some)) = some_or (Did t e) (MayChangeRights t) (SameRights t (after t e) e.acts) (commands_of t e.event)
      (did_gated t e) some
