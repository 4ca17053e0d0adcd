-- The holder of a lock keeps it in the steps of others, except for the ways that the law lists.
use Rattle.session_laws.proofs.Vocabulary.{◌≡◌, ℕ, Bool, true, false, List, [], ◌∷◌, ◌++◌, Some, None, refl, ap, sym}
use Rattle.session_laws.proofs.Vocabulary.{◌∙◌, subst, inl, inr, ◌⊎◌, AllByRecursion, UserId, Write, Execute, Act}
use Rattle.session_laws.proofs.Vocabulary.{followed_by, same_user, same_user-true, holder, Order, name_of, needs}
use Rattle.session_laws.proofs.Vocabulary.{first_fault, checks_by, left_acts, Given, commands_of, SomeOf, may_in}
use Rattle.session_laws.proofs.Vocabulary.{holder_in, IsStep, after, AreFit, Tables, Entry, not_so, all_weaken, stood}
use Rattle.session_laws.proofs.Vocabulary.{user_of, HoldersMayWrite, LosesIn, FreesBy, Frees, IsFreed, LocksStayIn}
use Rattle.acl.specs.declared.act.Object.TheVariants as object
use Rattle.command_lang.specs.declared.command.Command.TheVariants as command
use Rattle.session_laws.proofs.Doing.{Either}
use Rattle.session_laws.proofs.Steps.{Did, Obeys}
use Rattle.session_laws.proofs.Events.{gives_commands}
use Rattle.session_laws.proofs.Gating.{Below, obeys_of, then_passed}
use Rattle.session_laws.proofs.Holding.{kept as kept_tables, by_acts, givers}
use Rattle.session_laws.proofs.Parting.{did_x}
use Rattle.session_laws.proofs.Callers.{IsOf, callers}
use Rattle.session_laws.proofs.GuestsLeaving.{left_read}
use Rattle.session_laws.proofs.HolderActs.{moves, IsCalm, KeepsWindow, stays_calm, able_calm, loses_or_keeps}
use Rattle.session_laws.proofs.OthersActs.{takes_rights, Silent, silent_all, Mine}
use Rattle.session_laws.proofs.OthersCommands.{Affects, calms, lists, frees_it, does_comes}
use Rattle.session_laws.proofs.OthersEvents.{Touches, leaves_it, closes_it, Apart, plain_happens}

module _ (t : Tables) (fit : AreFit t) (w : ℕ) (x : UserId) (old : stood t (object.Window w) ≡ true)
    (able : may_in t x Write (object.Window w) ≡ true) (held : holder_in t w ≡ Some x) where
  abbrev Calm : Bool → Act → Type 0
  Calm b a = IsCalm t.edition t.owner t.acts x w b a

  abbrev Plainly : Act → Type 0
  Plainly a = moves a ≡ false

  abbrev Still : Entry → Type 0
  Still e = holder t.edition t.owner (followed_by t.acts e.acts) w ≡ Some x

  still_by : (e : Entry) (b : Bool) → AllByRecursion Plainly e.acts → AllByRecursion (Calm b) e.acts → Still e
  still_by e b plain calm = stays_calm t.edition t.owner t.acts x w b e.acts
      (able_calm t.edition t.owner t.acts x w b t.acts e.acts plain calm able) calm held

  keeps_by : (e : Entry) → KeepsWindow t.edition t.owner t.acts x w false t.acts e.acts
      → AllByRecursion (Calm false) e.acts → Still e
  keeps_by e keeps calm = stays_calm t.edition t.owner t.acts x w false e.acts keeps.able calm held

  loses_by : (e : Entry) (g : Given) (c : Order) → takes_rights c ≡ true → LosesIn t e x w → FreesBy t e w x g c
  loses_by e g (command.Acladd names) changes loses = loses
  loses_by e g (command.Aclchg names bits list) changes loses = loses
  loses_by e g (command.Acldel word) changes loses = loses
  loses_by e g (command.Aclgrp word leader) changes loses = loses
  loses_by e g c changes loses = absurd (cc (changes))

  abbrev Freed : Entry → Type 0 → Type 0
  Freed e why = Still e ⊎ (why × AllByRecursion Silent e.acts)

  did_stays : (e : Entry) (g : Given) → IsOf t g.caller → same_user g.caller.user x ≡ false → Did t e g
      → Freed e (Frees t e w x g)
  did_stays e g of other d = on (subst (C g.order) (sym acts) comes) where
    passed : first_fault t (checks_by t g.caller (needs g.order)) ≡ None
    passed = then_passed (may_in t g.caller.user Execute (object.Command (name_of g.order))) _ _ d.passes

    C : Order → List Act → Type 0
    C = Affects t w x g

    comes : C g.order (d.deed.acts ++ left_acts d.clients d.deed.tables.clients)
    comes = subst (Either (λ y. C g.order (y.acts ++ left_acts d.clients y.tables.clients))) d.does_it
        (does_comes t fit w x held g d.clients d.same d.by of other passed)

    acts : e.acts ≡ d.deed.acts ++ left_acts d.clients d.deed.tables.clients
    acts = d.acts ∙ ap (λ left. d.deed.acts ++ left) (left_read t.clients d.clients d.deed.tables.clients d.same)

    on : C g.order e.acts → Freed e (Frees t e w x g)
    on (calms calm plain) = inl (still_by e false plain calm)
    on (frees_it frees silent) = inr (record { granted = did_x t e g d; frees = frees e }, silent)
    on (lists changes calm silent) = by (loses_or_keeps t.edition t.owner t.acts x w false t.acts e.acts) where
      by : LosesIn t e x w ⊎ KeepsWindow t.edition t.owner t.acts x w false t.acts e.acts → Freed e (Frees t e w x g)
      by (inl loses) = inr (record { granted = did_x t e g d; frees = loses_by e g g.order changes loses }, silent)
      by (inr keeps) = inl (keeps_by e keeps (calm keeps))

  some_stays : (e : Entry) (gs : List Given) → AllByRecursion (λ (g : Given). IsOf t g.caller) gs
      → AllByRecursion (λ (g : Given). same_user g.caller.user x ≡ false) gs → SomeOf (Did t e) gs
      → Freed e (SomeOf (Frees t e w x) gs)
  some_stays e [] ofs others some = absurd some
  some_stays e (g ∷ gs) ofs others (inl d) = first (did_stays e g ofs.0 others.0 d) where
    first : Freed e (Frees t e w x g) → Freed e (SomeOf (Frees t e w x) (g ∷ gs))
    first (inl s) = inl s
    first (inr f) = inr (inl f.0, f.1)
  some_stays e (g ∷ gs) ofs others (inr later) = rest (some_stays e gs ofs.1 others.1 later) where
    rest : Freed e (SomeOf (Frees t e w x) gs) → Freed e (SomeOf (Frees t e w x) (g ∷ gs))
    rest (inl s) = inl s
    rest (inr f) = inr (inr f.0, f.1)

  pub stays : Below → (e : Entry) → IsStep t e → Apart t x e.event → Freed e (IsFreed t e w x)
  stays laws e step apart = on (gives_commands e.event) refl where
    others : AllByRecursion (λ (g : Given). same_user g.caller.user x ≡ false) (commands_of t e.event)
    others = all_weaken (λ (g : Given). user_of t e.event ≡ Some g.caller.user)
        (λ (g : Given). same_user g.caller.user x ≡ false) (commands_of t e.event) (λ g is. apart g.caller.user is)
        (givers t e.event)

    given_it : Freed e (SomeOf (Frees t e w x) (commands_of t e.event)) → Freed e (IsFreed t e w x)
    given_it (inl s) = inl s
    given_it (inr f) = inr (inr f.0, f.1)

    by_command : Obeys t e → Freed e (IsFreed t e w x)
    by_command (inl rests) = inl (ap (λ acts. holder t.edition t.owner (followed_by t.acts acts) w) rests.acts ∙ held)
    by_command (inr some) = given_it (some_stays e (commands_of t e.event) (callers t e.event) others some)

    by_event : Touches t w x e.event e.acts → Freed e (IsFreed t e w x)
    by_event (leaves_it b calm plain) = inl (still_by e b plain calm)
    by_event (closes_it is silent) = inr (inl is, silent)

    on : (b : Bool) → gives_commands e.event ≡ b → Freed e (IsFreed t e w x)
    on true gives = by_command (obeys_of laws t e step gives)
    on false gives = by_event
        (subst (Touches t w x e.event) (sym step.acts) (plain_happens t fit w x old e.event gives apart))

  pub mine_after : (e : Entry) → AllByRecursion Silent e.acts → Mine t w x (followed_by t.acts e.acts)
  mine_after e silent = silent_all t w x t.acts e.acts silent (inl held)

pub locks_stay : Below → (t : Tables) (e : Entry) → AreFit t → HoldersMayWrite t → IsStep t e → LocksStayIn t e
locks_stay laws t e fit able step w x old held other = on (stays t fit w x old (able w x held) held laws e step apart)
  where
    apart : (u : UserId) → user_of t e.event ≡ Some u → same_user u x ≡ false
    apart u is = not_so (same_user u x) (λ same. other (is ∙ ap Some (same_user-true u x same)))

    on : (holder t.edition t.owner (followed_by t.acts e.acts) w ≡ Some x) ⊎
        (IsFreed t e w x × AllByRecursion Silent e.acts)
        → (holder_in (after t e) w ≡ Some x) ⊎ ((holder_in (after t e) w ≡ None) × IsFreed t e w x)
    on (inl there) = inl
        (by_acts (λ edition owner h. holder edition owner h w ≡ Some x) t e (kept_tables laws t e step) there)
    on (inr freed) = whose (mine_after t fit w x old (able w x held) held e freed.1) where
      whose : (holder t.edition t.owner (followed_by t.acts e.acts) w ≡ Some x) ⊎
          (holder t.edition t.owner (followed_by t.acts e.acts) w ≡ None)
          → (holder_in (after t e) w ≡ Some x) ⊎ ((holder_in (after t e) w ≡ None) × IsFreed t e w x)
      whose (inl there) = inl
          (by_acts (λ edition owner h. holder edition owner h w ≡ Some x) t e (kept_tables laws t e step) there)
      whose (inr none) = inr
          (by_acts (λ edition owner h. holder edition owner h w ≡ None) t e (kept_tables laws t e step) none, freed.0)
