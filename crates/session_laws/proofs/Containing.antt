-- Guests are contained: they can't change rights, in any run.
use Rattle.session_laws.proofs.Vocabulary.{◌≡◌, ◌≤◌, ℕ, Bool, true, false, List, [], ◌∷◌, refl, ap, sym, ◌∙◌, subst}
use Rattle.session_laws.proofs.Vocabulary.{inl, inr, arith, ◌==◌, ◌||◌, nat_lt, AllByRecursion, list_any, nat_tests}
use Rattle.session_laws.proofs.Vocabulary.{UserId, Act, Object, name_of, Order, left_acts, Given, commands_of, Caller}
use Rattle.session_laws.proofs.Vocabulary.{SomeOf, IsStep, IsRunFrom, after, tables_from, Tables, EventValue, Open}
use Rattle.session_laws.proofs.Vocabulary.{Entry, GrantsAreTheirs, some_gives, some_elim, contradicts, all_weaken}
use Rattle.session_laws.proofs.Vocabulary.{all_append, changes_rights, opens_window, opened_by, SameLists, SameRights}
use Rattle.session_laws.proofs.Vocabulary.{MayChangeRights, RightsAreGated, AllSteps, AreGuests, ChangesAreTheirs}
use Rattle.session_laws.proofs.Vocabulary.{stood, AreContained}
use Rattle.acl.specs.declared.act.Act.TheVariants as act
use Rattle.acl.specs.declared.act.Object.TheVariants as object
use Rattle.session_laws.proofs.CommandActs.{IsActOf, IsRow}
use Rattle.session_laws.proofs.Steps.{Did, with_clients}
use Rattle.session_laws.proofs.Events.{IsActIn, all_left}
use Rattle.session_laws.proofs.Gating.{Below, Steps, steps_of, row_did, gated}

-- ---- windows that are opened are new

abbrev pub IsNew : ℕ → Act → Type 0
IsNew next (act.Opened by w) = next ≤ w
IsNew next a = Unit {0}

pub record Grows (t : Tables) (acts : List Act) (u : Tables) : Type 0 where
  pub opened : AllByRecursion (IsNew t.next_window) acts
  pub next : t.next_window ≤ u.next_window

pub same_le : (m n : ℕ) → m ≡ n → m ≤ n
same_le m n is = omega (arith, is)

plain_new : (t : Tables) (event : EventValue) (a : Act) → IsActIn t event a → IsNew t.next_window a
plain_new t event (act.Opened by w) is = on event is where
  on : (event : EventValue) → IsActIn t event (act.Opened by w) → t.next_window ≤ w
  on (Open user rows columns keep title) is = same_le t.next_window w (sym is.1)
  on event is = absurd is
plain_new t event a is = tt

row_new : (next : ℕ) (k : Caller) (c : Order) (a : Act) → IsActOf k c a → IsNew next a
row_new next k c (act.Opened by w) is = absurd is
row_new next k c a is = tt

did_grows : (t : Tables) (e : Entry) (g : Given) → Did t e g → Grows t e.acts (after t e)
did_grows t e g d =
    let r : IsRow (with_clients t d.clients) g.caller g.order d.deed = row_did t e g d in record {
      opened = subst (AllByRecursion (IsNew t.next_window)) (sym d.acts)
          (all_append (IsNew t.next_window) d.deed.acts (left_acts t.clients d.deed.tables.clients)
          (all_weaken (IsActOf g.caller g.order) (IsNew t.next_window) d.deed.acts
          (row_new t.next_window g.caller g.order) r.acts)
          (all_left (IsNew t.next_window) t.clients d.deed.tables.clients (λ user w. tt)));
      next = same_le t.next_window (after t e).next_window (sym (d.tables.next_window ∙ r.next_window));
    }

pub grows : Below → (t : Tables) (e : Entry) → IsStep t e → Grows t e.acts (after t e)
grows laws t e step = on (steps_of laws t e step) where
  on : Steps t e → Grows t e.acts (after t e)
  on (inl p) = record {
    opened = all_weaken (IsActIn t e.event) (IsNew t.next_window) e.acts (plain_new t e.event) p.acts_in;
    next =
        p.next_window;
  }
  on (inr (inl rests)) = record {
    opened = subst (AllByRecursion (IsNew t.next_window)) (sym rests.acts) tt;
    next = same_le t.next_window (after t e).next_window (sym rests.tables.next_window);
  }
  on (inr (inr some)) = some_gives (Did t e) (Grows t e.acts (after t e)) (commands_of t e.event) (did_grows t e) some

-- a window that was there before isn't opened again
pub not_opened : (n w : ℕ) (acts : List Act) → AllByRecursion (IsNew n) acts → nat_lt w n ≡ true
    → list_any (opens_window w) acts ≡ false
not_opened n w [] all before = refl
not_opened n w (act.Opened by v ∷ acts) all before =
    let le : n ≤ v = all.0 in
    let other : (v == w) ≡ false = grind (arith, nat_tests, le, before) in
    ap (λ b. b || list_any (opens_window w) acts) other ∙ not_opened n w acts all.1 before
not_opened n w (a ∷ acts) all before = not_opened n w acts all.1 before

stood_later : (m n w : ℕ) → m ≤ n → nat_lt w m ≡ true → nat_lt w n ≡ true
stood_later m n w le before = grind (arith, nat_tests, le, before)

old_object : (start t : Tables) (acts : List Act) (u : Tables) → start.next_window ≤ t.next_window → Grows t acts u
    → (o : Object) → stood start o ≡ true → opened_by acts o ≡ false
old_object start t acts u le g (object.Window w) is = not_opened t.next_window w acts g.opened
    (stood_later start.next_window t.next_window w le is)
old_object start t acts u le g (object.Command c) is = refl

-- ---- each step

pub none_granted : (t : Tables) (users : UserId → Bool) (gs : List Given) → AreGuests t users
    → AllByRecursion (λ (g : Given). MayChangeRights t g → users g.caller.user ≡ true) gs
    → SomeOf (MayChangeRights t) gs → ⊥
none_granted t users gs are all some =
    some_elim (MayChangeRights t) (λ (g : Given). MayChangeRights t g → users g.caller.user ≡ true) ⊥ gs
    (λ g may theirs. contradicts _ may.granted (are g.caller.user (name_of g.order) (theirs may) may.changes)) some all

pub record Remains (start t : Tables) (guests : UserId → Bool) : Type 0 where
  pub contained : AreContained start t guests
  pub next : start.next_window ≤ t.next_window

same_lists : (t u v : Tables) → SameLists t u → SameLists u v → SameLists t v
same_lists t u v a b = record {
  users = b.users ∙ a.users;
  known = λ user. b.known user ∙ a.known user;
  leaders = λ user. b.leaders user ∙ a.leaders user;
  masks = λ by user bit. b.masks by user bit ∙ a.masks by user bit;
  presets = λ kind bit. b.presets kind bit ∙ a.presets kind bit;
}

pub step_remains : (start t : Tables) (acts : List Act) (u : Tables) (guests : UserId → Bool) → Grows t acts u
    → SameRights t u acts → Remains start t guests → Remains start u guests
step_remains start t acts u guests g same r = record {
  contained = record {
    rights = record {
      lists = same_lists start t u r.contained.rights.lists same.lists;
      rights = λ user bit o is. same.rights user bit o (old_object start t acts u r.next g o is)
          ∙ r.contained.rights.rights user bit o is;
    };
    as_before = λ user c is changes. same.rights user _ (object.Command c) refl
        ∙ r.contained.as_before user c is changes;
  };
  next = let le : start.next_window ≤ t.next_window = r.next in let more : t.next_window ≤ u.next_window = g.next in
      omega (arith, le, more);
}

gated_stays : (start t : Tables) (e : Entry) (guests : UserId → Bool) → Grows t e.acts (after t e)
    → RightsAreGated t e → GrantsAreTheirs guests t e → Remains start t guests → Remains start (after t e) guests
gated_stays start t e guests g (inl same) theirs before = step_remains start t e.acts (after t e) guests g same before
gated_stays start t e guests g (inr some) theirs before =
    absurd (none_granted t guests (commands_of t e.event) before.contained.as_before theirs some)

pub stays : Below → (start : Tables) (later : List Entry) (guests : UserId → Bool) → AreGuests start guests
    → IsRunFrom start later → AllSteps (GrantsAreTheirs guests) start later
    → Remains start (tables_from start later) guests
stays laws start [] guests are run theirs = record {
  contained = record {
    rights = record {
      lists = record {
        users = refl;
        known = λ user. refl;
        leaders = λ user. refl;
        masks = λ by user bit. refl;
        presets = λ kind
            bit. refl;
      };
      rights = λ user bit o is. refl;
    };
    as_before = are;
  };
  next = same_le start.next_window start.next_window refl;
}
stays laws start (e ∷ past) guests are run theirs =
    let t : Tables = tables_from start past in
    gated_stays start t e guests (grows laws t e run.1) (gated laws t e run.1) theirs.1
    (stays laws start past guests are run.0 theirs.0)

-- if only they give such commands, only they are granted one
pub theirs_granted : (start : Tables) (later : List Entry) (guests : UserId → Bool)
    → AllSteps (ChangesAreTheirs guests) start later → AllSteps (GrantsAreTheirs guests) start later
theirs_granted start [] guests all = tt
theirs_granted start (e ∷ past) guests all =
    let t : Tables = tables_from start past in (
      theirs_granted start past guests all.0,
      all_weaken (λ (g : Given). changes_rights (name_of g.order) ≡ true → guests g.caller.user ≡ true)
          (λ (g : Given). MayChangeRights t g → guests g.caller.user ≡ true) (commands_of t e.event)
          (λ g on may. on may.changes) all.1,
    )
