-- A command that keys complete does its row, or its client is told why not.
use Rattle.session_laws.proofs.Vocabulary.{◌≡◌, ℕ, true, List, [], ◌∷◌, ◌++◌, Option, Some, None, Ok, Err, Result, refl}
use Rattle.session_laws.proofs.Vocabulary.{ap, sym, ◌∙◌, subst, map, take, AllByRecursion, Act, followed_by, Order}
use Rattle.session_laws.proofs.Vocabulary.{ParseFault, Item, typed, bound, line, Effect, Say, StatusMessage, Text}
use Rattle.session_laws.proofs.Vocabulary.{Refusal, NoWindow, Line, Verdict, EventValue, Keys, Reply, Entry, Tables}
use Rattle.session_laws.proofs.Vocabulary.{Client, client_at, text_of, Caller, caller_of, read_line, checks}
use Rattle.session_laws.proofs.Vocabulary.{first_fault, Deed, Answer, does, ruling, taken, step_items, typed_bytes}
use Rattle.session_laws.proofs.Vocabulary.{command_item, outcome, Outcome, refused, left_acts, keys_outcome, reading}
use Rattle.session_laws.proofs.Vocabulary.{told, ordered, keyed, with_listed, message_of, unsaid, by_line, Given, has_x}
use Rattle.session_laws.proofs.Vocabulary.{with_order, order_in, ok_of, unread, IsStep, after, typing, listed, heard}
use Rattle.session_laws.proofs.Vocabulary.{IsSaid, WasRefusedByKeys, WasTypedAlone, IsAnswered, IsNoCommand}
use Rattle.session_laws.proofs.Vocabulary.{KeysAreAnswered, KeysDidTheirRow, all_weaken}
use Rattle.session_laws.proofs.Inputs.{append_nil}
use Rattle.session_laws.proofs.Passing.{passed_has_x}
use Rattle.session_laws.proofs.Asking.{keys_given}
use Rattle.session_laws.proofs.Unread.{SameClients, typing_clients, nobody_left, left_unread}
use Rattle.session_laws.proofs.Granting.{told_read, same_tables}
use Rattle.session_laws.proofs.DenialsTold.{unsaid_listed}

-- ---- the parts of an answer's deed

record Done (t : Tables) (client : ℕ) (order : Order) (d e : Deed) : Type 0 where
  acts : e.acts ≡ d.acts
  left : left_acts t.clients e.tables.clients ≡ left_acts t.clients d.tables.clients
  effects : e.effects ≡ d.effects ++ listed client d.lists
  tables : e.tables ≡ heard client order d.lists d.tables

record Said (t v : Tables) (client : ℕ) (r : Refusal) (e : Deed) : Type 0 where
  acts : e.acts ≡ []
  left : left_acts t.clients e.tables.clients ≡ []
  effects : e.effects ≡ Say client (text_of r) ∷ []
  tables : e.tables ≡ told v client (Text (text_of r))

record Calm (t v : Tables) (e : Deed) : Type 0 where
  acts : e.acts ≡ []
  left : left_acts t.clients e.tables.clients ≡ []
  effects : e.effects ≡ []
  tables : e.tables ≡ v

told_clients : (v : Tables) (client : ℕ) (m : StatusMessage)
    → map unread (told v client m).clients ≡ map unread v.clients
told_clients v client m = (told_read v v client m (same_tables v)).clients

deed_done : (t : Tables) (client : ℕ) (order : Order) (d : Deed) (o : Option (List ℕ))
    → Done t client order (record d { lists = o }) (with_listed client (message_of order) o (record d { lists = o }))
deed_done t client order d None = record
    { acts = refl; left = refl; effects = sym (append_nil d.effects); tables = refl }
deed_done t client order d (Some bytes) = record {
  acts = refl;
  left = left_unread t.clients (told d.tables client (message_of order bytes)).clients d.tables.clients
      (told_clients d.tables client (message_of order bytes));
  effects = refl;
  tables = refl;
}

abbrev AnswerIs : Tables → Tables → ℕ → Given → Answer → Deed → Type 0
AnswerIs t v client g (Ok d) e = (has_x t g ≡ true) × Done t client g.order d e
AnswerIs t v client g (Err r) e = Said t v client r e

why_said : (t : Tables) (cs : List Client) (client : ℕ) (r : Refusal) (m : List ℕ → StatusMessage) → SameClients t cs
    → Said t (record t { clients = cs }) client r (keyed (record t { clients = cs }) client m (Err r))
why_said t cs client r m same = record {
  acts = refl;
  left = nobody_left t.clients (told (record t { clients = cs }) client (Text (text_of r))).clients
      (told_clients (record t { clients = cs }) client (Text (text_of r)) ∙ same);
  effects = refl;
  tables = refl;
}

-- ---- what a step of keys does

module _ (t : Tables) (c : Client) (read : List ℕ) where
  abbrev Ordered : Tables → Option Item → Given → Type 0
  Ordered v item g = AnswerIs t v c.serial g (ruling v g.caller g.order).answer (ordered v (reading read c) item).deed

  by_order : (cs : List Client) (order : Order) → SameClients t cs
      → let v : Tables = record t { clients = cs } in let k : Caller = caller_of t c in
      AnswerIs t v c.serial (record { caller = k; order = order }) (ruling v k order).answer
      (by_line v (reading read c) (Ok order)).deed
  by_order cs order same = on (first_fault t (checks t (caller_of t c) order)) refl where
    v : Tables
    v = record t { clients = cs }

    g : Given
    g = record { caller = caller_of t c; order = order }

    on_answer : (a : Answer) → has_x t g ≡ true → AnswerIs t v c.serial g a (keyed v c.serial (message_of order) a)
    on_answer (Ok d) has = (has, deed_done t c.serial order d d.lists)
    on_answer (Err r) has = why_said t cs c.serial r (message_of order) same

    on : (o : Option Refusal) → first_fault t (checks t (caller_of t c) order) ≡ o
        → let a : Answer = elim o as (λ _. Answer) [ Some r ↦ Err r | None ↦ does v (caller_of t c) order ] in AnswerIs
        t v c.serial g a (keyed v c.serial (message_of order) a)
    on (Some r) is = why_said t cs c.serial r (message_of order) same
    on None is = on_answer (does v (caller_of t c) order) (passed_has_x t (caller_of t c) order is)

  by_read : (cs : List Client) (b : ℕ) (bs : List ℕ) (r : Result Order ParseFault) → SameClients t cs
      → let v : Tables = record t { clients = cs } in
      AllByRecursion
      (λ (g : Given). AnswerIs t v c.serial g (ruling v g.caller g.order).answer
      (by_line v (reading read c) r).deed) (with_order (caller_of t c) (ok_of r))
  by_read cs b bs (Err f) same = tt
  by_read cs b bs (Ok order) same = (by_order cs order same, tt)

  by_item : (cs : List Client) (item : Option Item) → SameClients t cs
      → AllByRecursion (Ordered (record t { clients = cs }) item) (with_order (caller_of t c) (order_in item))
  by_item cs (Some (bound order)) same = (by_order cs order same, tt)
  by_item cs (Some (line (b ∷ bs))) same = by_read cs b bs (read_line (b ∷ bs)) same
  by_item cs item same = tt

  abbrev Faulty : Tables → Option Item → Type 0
  Faulty v (Some (bound order)) = Unit {0}
  Faulty v (Some (line (b ∷ bs))) = elim (read_line (b ∷ bs)) [
    | Ok order ↦ Unit {0}
    | Err f ↦ Said t v c.serial (Line f)
        (ordered v (reading read c) (Some (line (b ∷ bs)))).deed
  ]
  Faulty v item = Calm t v (ordered v (reading read c) item).deed

  read_faulty : (cs : List Client) (r : Result Order ParseFault) → SameClients t cs
      → let v : Tables = record t { clients = cs } in
      elim r as (λ _. Type 0)
      [ Ok order ↦ Unit {0} | Err f ↦ Said t v c.serial (Line f) (by_line v (reading read c) r).deed ]
  read_faulty cs (Ok order) same = tt
  read_faulty cs (Err f) same = why_said t cs c.serial (Line f) Text same

  by_fault : (cs : List Client) (item : Option Item) → SameClients t cs → Faulty (record t { clients = cs }) item
  by_fault cs (Some (bound order)) same = tt
  by_fault cs (Some (line (b ∷ bs))) same = read_faulty cs (read_line (b ∷ bs)) same
  by_fault cs item same = record { acts = refl; left = nobody_left t.clients cs same; effects = refl; tables = refl }

-- ---- entries

abbrev keys_entry : ℕ → List ℕ → Reply → List Act → List Verdict → List Effect → Entry
keys_entry client bytes reply acts vs effects = record
    { event = Keys client bytes; reply = reply; acts = acts; verdicts = vs; effects = effects }

said_of : (e : Entry) (client : ℕ) (said es : List Effect) (o : Option (List ℕ))
    → e.effects ≡ said ++ unsaid said (es ++ listed client o) → IsSaid e client o
said_of e client said es None is = tt
said_of e client said es (Some bytes) is = subst
    (λ fs. Rattle.session_model.specs.Promises.SomeOf (λ f. f ≡ Say client bytes) fs) (sym is)
    (unsaid_listed said es client bytes)

module _ (t : Tables) (client : ℕ) (bytes : List ℕ) (reply : Reply) (acts : List Act) (vs : List Verdict)
    (effects : List Effect)
    (step : IsStep t (keys_entry client bytes reply acts vs effects)) (c : Client) (is : client_at t client ≡ Some c)
  where
    abbrev e : Entry
    e = keys_entry client bytes reply acts vs effects

    abbrev read : List ℕ
    read = take (taken c.keys bytes) bytes

    abbrev item : Option Item
    item = command_item (step_items c bytes)

    abbrev before : Deed
    before = typing t c bytes

    abbrev deed : Deed
    deed = (ordered before.tables (reading read c) item).deed

    outcome_is : outcome t (Keys client bytes) ≡ keys_outcome t c read
    outcome_is = ap
        (λ o. elim o as (λ _. Outcome)
        [ None ↦ refused t [] NoWindow | Some x ↦ keys_outcome t x (take (taken x.keys bytes) bytes) ]) is

    acts_are : acts ≡ deed.acts ++ left_acts t.clients deed.tables.clients
    acts_are = step.acts ∙ ap (λ o. o.acts) outcome_is

    effects_are : effects ≡ before.effects ++ unsaid before.effects deed.effects
    effects_are = step.effects ∙ ap (λ o. o.effects) outcome_is

    tables_are : after t e ≡ record deed.tables { acts = followed_by t.acts acts }
    tables_are = ap (λ o. o.tables) outcome_is
        ∙ ap (λ xs. record deed.tables { acts = followed_by t.acts xs }) (sym acts_are)

    refused_by : (r : Refusal) → Said t before.tables c.serial r deed → WasRefusedByKeys t e c before r
    refused_by r s = record {
      acts = acts_are ∙ ap (λ xs. xs ++ left_acts t.clients deed.tables.clients) s.acts ∙ s.left;
      effects = effects_are ∙ ap (λ es. before.effects ++ unsaid before.effects es) s.effects;
      said = said_of e c.serial before.effects [] (Some (text_of r))
          (effects_are ∙ ap (λ es. before.effects ++ unsaid before.effects es) s.effects);
      tables = tables_are ∙ ap (λ (x : Tables). record x { acts = followed_by t.acts acts }) s.tables;
    }

    typed_alone : Calm t before.tables deed → WasTypedAlone t e before
    typed_alone calm = record {
      acts = acts_are ∙ ap (λ xs. xs ++ left_acts t.clients deed.tables.clients) calm.acts ∙ calm.left;
      effects = effects_are ∙ ap (λ es. before.effects ++ unsaid before.effects es) calm.effects
          ∙ append_nil before.effects;
      tables = tables_are ∙ ap (λ (x : Tables). record x { acts = followed_by t.acts acts }) calm.tables;
    }

    answered_by : (g : Given) (a : Answer) → AnswerIs t before.tables c.serial g a deed → IsAnswered t e c before g a
    answered_by g (Ok d) done = record {
      granted = done.0;
      acts = acts_are ∙ ap (λ xs. xs ++ left_acts t.clients deed.tables.clients) done.1.acts
          ∙ ap (λ xs. d.acts ++ xs) done.1.left;
      effects = effects_are ∙ ap (λ es. before.effects ++ unsaid before.effects es) done.1.effects;
      said = said_of e c.serial before.effects d.effects d.lists
          (effects_are ∙ ap (λ es. before.effects ++ unsaid before.effects es) done.1.effects);
      tables = tables_are ∙ ap (λ (x : Tables). record x { acts = followed_by t.acts acts }) done.1.tables;
    }
    answered_by g (Err r) said = refused_by r said

    fault_by : (o : Option Item) → o ≡ item → Faulty t c read before.tables o → IsNoCommand t e c before o
    fault_by None at is = typed_alone
        (subst (λ (x : Option Item). Calm t before.tables (ordered before.tables (reading read c) x).deed) at is)
    fault_by (Some (typed b)) at is = typed_alone
        (subst (λ (x : Option Item). Calm t before.tables (ordered before.tables (reading read c) x).deed) at is)
    fault_by (Some (bound order)) at is = tt
    fault_by (Some (line [])) at is = typed_alone
        (subst (λ (x : Option Item). Calm t before.tables (ordered before.tables (reading read c) x).deed) at is)
    fault_by (Some (line (b ∷ bs))) at is = on (read_line (b ∷ bs)) is where
      on : (r : Result Order ParseFault)
          → elim r as (λ _. Type 0) [
            | Ok order ↦ Unit {0}
            | Err f ↦ Said t before.tables c.serial (Line f)
                (ordered before.tables (reading read c) (Some (line (b ∷ bs)))).deed
          ]
          → elim r as (λ _. Type 0) [ Ok order ↦ Unit {0} | Err f ↦ WasRefusedByKeys t e c before (Line f) ]
      on (Ok order) is = tt
      on (Err f) is = refused_by (Line f)
          (subst
          (λ (x : Option Item). Said t before.tables c.serial (Line f) (ordered before.tables (reading read c) x).deed)
          at
          is)

    answered : KeysAreAnswered t e c bytes
    answered = record {
      command = subst
          (λ gs. AllByRecursion (λ g. IsAnswered t e c before g (ruling before.tables g.caller g.order).answer) gs)
          (sym (keys_given t client bytes c is))
          (all_weaken (Ordered t c read before.tables item)
          (λ g. IsAnswered t e c before g (ruling before.tables g.caller g.order).answer)
          (with_order (caller_of t c) (order_in item))
          (λ g all. answered_by g (ruling before.tables g.caller g.order).answer all)
          (typing_clients (λ v. AllByRecursion (Ordered t c read v item) (with_order (caller_of t c) (order_in item))) t
          client c (reading read c) (typed_bytes (step_items c bytes)) is refl refl
          (λ cs same. by_item t c read cs item same)));
      no_command = fault_by item refl
          (typing_clients (λ v. Faulty t c read v item) t client c (reading read c) (typed_bytes (step_items c bytes))
          is
          refl refl (λ cs same. by_fault t c read cs item same));
    }

pub rows_keyed : (t : Tables) (event : EventValue) (reply : Reply) (acts : List Act) (vs : List Verdict)
    (effects : List Effect)
    → let e : Entry = record { event = event; reply = reply; acts = acts; verdicts = vs; effects = effects } in IsStep t
    e → KeysDidTheirRow t e event
rows_keyed t (Keys client bytes) reply acts vs effects step = λ c is. answered t client bytes reply acts vs effects step
    c is
rows_keyed t event reply acts vs effects step = tt
