-- In each step of a spectator others keep what they have.
use Rattle.session_laws.proofs.Vocabulary.{◌≡◌, ℕ, true, false, List, [], ◌∷◌, Option, Some, None, refl, ap, sym, ◌∙◌}
use Rattle.session_laws.proofs.Vocabulary.{subst, ⊎_elim, ◌||◌, AllByRecursion, list_any, UserId, Act, Object, Write}
use Rattle.session_laws.proofs.Vocabulary.{Execute, CommandName, History, followed_by, default_of, mode_of, Order}
use Rattle.session_laws.proofs.Vocabulary.{name_of, Entry, Tables, may_in, holder_in, Given, commands_of, SomeOf}
use Rattle.session_laws.proofs.Vocabulary.{AreFit, IsStep, after, and_first, contradicts, opens_window, opened_by}
use Rattle.session_laws.proofs.Vocabulary.{SameRights, changes_rights, stood, user_of, HoldersMayWrite, HoldersStay}
use Rattle.session_laws.proofs.Vocabulary.{LocksAreTaken, TakesIt, MayFree, may_free, is_watching, IsSpectator}
use Rattle.session_laws.proofs.Vocabulary.{LeavesOthers}
use Rattle.acl.specs.declared.act.Act.TheVariants as act
use Rattle.acl.specs.declared.act.Object.TheVariants as object
use Rattle.acl.specs.declared.command_name.CommandName.TheVariants as name
use Rattle.command_lang.specs.declared.command.Command.TheVariants as command
use Rattle.session_laws.proofs.Listing.{is_listing}
use Rattle.session_laws.proofs.Histories.{NoListing, same_rights}
use Rattle.session_laws.proofs.Holding.{givers}
use Rattle.session_laws.proofs.Watching.{is_presence, Presence}
use Rattle.session_laws.proofs.GuestsGranting.{same_granted}
use Rattle.session_laws.proofs.Spectating.{Stepped}
use Rattle.session_laws.proofs.Spectators.{Left, left_acts_of}

-- ---- what stays by those acts

not_listing : (acts : List Act) → Presence acts → NoListing acts
not_listing [] all = tt
not_listing (a ∷ acts) all = (one a all.0, not_listing acts all.1) where
  one : (a : Act) → is_presence a ≡ true → is_listing a ≡ false
  one (act.Attached client v) is = refl
  one (act.Parted client) is = refl
  one (act.Entered v w) is = refl
  one (act.Left v w) is = refl
  one a is = absurd (cc (is))

opens_none : (acts : List Act) (w : ℕ) → Presence acts → list_any (opens_window w) acts ≡ false
opens_none [] w all = refl
opens_none (a ∷ acts) w all = ap (λ b. b || list_any (opens_window w) acts) (one a all.0)
    ∙ opens_none acts w all.1 where
      one : (a : Act) → is_presence a ≡ true → opens_window w a ≡ false
      one (act.Opened by v) is = absurd (cc (is))
      one a is = refl

pub none_opened : (acts : List Act) (o : Object) → Presence acts → opened_by acts o ≡ false
none_opened acts (object.Window w) present = opens_none acts w present
none_opened acts (object.Command c) present = refl

record SameLocking (h k : History) : Type 0 where
  default : default_of k ≡ default_of h
  modes : (window : ℕ) → mode_of k window ≡ mode_of h window

same_locking : (h : History) (acts : List Act) → Presence acts → SameLocking h (followed_by h acts)
same_locking h [] all = record { default = refl; modes = λ w. refl }
same_locking h (a ∷ acts) all =
    let first : SameLocking h (a ∷ h) = one a all.0 in
    let rest : SameLocking (a ∷ h) (followed_by (a ∷ h) acts) = same_locking (a ∷ h) acts all.1 in
    record { default = rest.default ∙ first.default; modes = λ w. rest.modes w ∙ first.modes w } where
      one : (a : Act) → is_presence a ≡ true → SameLocking h (a ∷ h)
      one (act.Attached client v) is = record { default = refl; modes = λ w. refl }
      one (act.Parted client) is = record { default = refl; modes = λ w. refl }
      one (act.Entered v x) is = record { default = refl; modes = λ w. refl }
      one (act.Left v x) is = record { default = refl; modes = λ w. refl }
      one a is = absurd (cc (is))

pub record Laws : Type 0 where
  pub stay : HoldersStay
  pub taken : LocksAreTaken

module _ (laws : Laws) (t : Tables) (e : Entry) (user : UserId) (fit : AreFit t) (hold : HoldersMayWrite t)
    (step : IsStep t e) (by : user_of t e.event ≡ Some user) (watches : IsSpectator t user) where
  left : Left t user e.acts e.effects (after t e)
  left = subst (λ acts. Left t user acts e.effects (after t e)) (sym step.acts)
      (left_acts_of t user fit watches e.event e.effects step.effects by)

  -- ---- locks

  freeing : (c : Order) → may_free c ≡ true → is_watching (name_of c) ≡ false
  freeing command.Kill is = refl
  freeing command.Quit is = refl
  freeing (command.Multiuser b) is = refl
  freeing c is = absurd (cc (is))

  frees_none : (gs : List Given) → AllByRecursion (λ (g : Given). user_of t e.event ≡ Some g.caller.user) gs
      → SomeOf (MayFree t) gs → ⊥
  frees_none [] all some = some
  frees_none (g ∷ gs) all some = ⊎_elim here (λ later. frees_none gs all.1 later) some where
    here : MayFree t g → ⊥
    here f =
        let theirs : user ≡ g.caller.user = let e : Some user ≡ Some g.caller.user = sym by ∙ all.0 in cc (e) in
        let may : may_in t user Execute (object.Command (name_of g.order)) ≡ true = ap
        (λ u. may_in t u Execute (object.Command (name_of g.order))) theirs ∙ and_first _ _ f.granted in
        contradicts _ may (watches.commands (name_of g.order) (freeing g.order f.frees))

  taken_by_none : (window : ℕ) (x : UserId) → TakesIt t e window x → ⊥
  taken_by_none window x takes =
      let theirs : user ≡ x = let e : Some user ≡ Some x = sym by ∙ takes.own in cc (e) in
      ⊎_elim (λ opened. contradicts _ opened (none_opened e.acts (object.Window window) left.stepped.presence))
      (λ may. contradicts _ may (ap (λ u. may_in t u Write (object.Window window)) (sym theirs) ∙ watches.write window))
      takes.may

  holders : (window : ℕ) → stood t (object.Window window) ≡ true → holder_in (after t e) window ≡ holder_in t window
  holders window stands = on (holder_in t window) refl where
    free : (o : Option UserId) → holder_in (after t e) window ≡ o → holder_in t window ≡ None → o ≡ None
    free None is none = refl
    free (Some x) is none =
        absurd
        (⊎_elim (λ was. let e : Some x ≡ None = sym was ∙ none in let no : ⊥ = absurd (cc (e)) in no)
        (λ takes. taken_by_none window x takes) (laws.taken t e step window x is))

    on : (o : Option UserId) → holder_in t window ≡ o → holder_in (after t e) window ≡ o
    on None is = free (holder_in (after t e) window) refl is
    on (Some x) is =
        ⊎_elim (λ stays. stays) (λ some. absurd (frees_none (commands_of t e.event) (givers t e.event) some))
        (laws.stay t e fit hold step window user x by
        (record { write = watches.write window; lists = λ c changes. watches.commands c (lists_not c changes) })
        stands is) where
          lists_not : (c : CommandName) → changes_rights c ≡ true → is_watching c ≡ false
          lists_not name.Acladd is = refl
          lists_not name.Aclchg is = refl
          lists_not name.Acldel is = refl
          lists_not name.Aclgrp is = refl
          lists_not name.Aclumask is = refl
          lists_not c is = absurd (cc (is))

  pub leaves_others : LeavesOthers t e user
  leaves_others =
      let s : Stepped user t e.acts (after t e) = left.stepped in
      let rights : SameRights t (after t e) e.acts = same_rights t (after t e) e.acts s.owner s.edition s.acts_are
      (not_listing e.acts s.presence) in
      let locking : SameLocking t.acts (followed_by t.acts e.acts) = same_locking t.acts e.acts s.presence in record {
        tables = record {
          windows = s.windows;
          next_window = s.next_window;
          mode = s.mode;
          clients = s.clients;
          rights = record {
            lists = rights.lists;
            rights = λ u bit o none. rights.rights u bit o (none_opened e.acts o s.presence);
          };
          default = ap default_of s.acts_are ∙ locking.default;
          lock_modes = λ w. ap (λ h. mode_of h w) s.acts_are ∙ locking.modes w;
          holders = holders;
          views = λ c plain. same_granted t (after t e) s.windows
              (λ u bit o. rights.rights u bit o (none_opened e.acts o s.presence)) c plain;
        };
        effects = left.effects;
      }
