-- What commands of a setup do in a session that nobody has joined.
use Rattle.trail_again.proofs.Vocabulary.{◌≡◌, ◌∙◌, ℕ, true, false, List, [], ◌∷◌, ◌++◌, refl, ap, sym, map, Option}
use Rattle.trail_again.proofs.Vocabulary.{Some, None, ◌||◌, if◌then◌else◌, Ok, Err, append_assoc, subst, IsOk}
use Rattle.trail_again.proofs.Vocabulary.{option_or, append-nil, Act, Object, PresetKind, Execute, BitChange, Edition}
use Rattle.trail_again.proofs.Vocabulary.{MaskEntry, MaskScope, UserId, known_name_fault, History, followed_by}
use Rattle.trail_again.proofs.Vocabulary.{is_known, leaders_of, may, users_of, decides_known, has, latest, named_by}
use Rattle.trail_again.proofs.Vocabulary.{same_user-refl, Order, Mask, order_name, needs, checks_by, first_fault, does}
use Rattle.trail_again.proofs.Vocabulary.{mask_entries, acting, outcome, Caller, line_caller, read_line, objects_of}
use Rattle.trail_again.proofs.Vocabulary.{Tables, fresh, session_after, list_any, AclFault}
use Rattle.acl.specs.declared.act.Act.TheVariants as act
use Rattle.acl.specs.declared.act.Object.TheVariants as object
use Rattle.acl.specs.declared.entries.MaskScope.TheVariants as scope
use Rattle.acl.specs.declared.entries.NewLeader.TheVariants as new_leader
use Rattle.acl.specs.Commands.{change_acts, change_fault, group_fault, mask_acts, mask_fault, group_acts, scope_acts}
use Rattle.acl.specs.Commands.{scope_fault}
use Rattle.command_lang.specs.declared.command.Command.TheVariants as command
use Rattle.command_lang.specs.declared.command.Leader.TheVariants as leader
use Rattle.command_lang.specs.declared.command.Users.TheVariants as users
use Rattle.session.specs.refusal.Refusal.TheVariants.{Acl, UnknownUser}
use Rattle.session.specs.refusal.Refusal.{Refusal}
use Rattle.session.specs.Answering.{answered, commanded, line_ruling}
use Rattle.session.specs.Checks.{checks, refusal_of, verdicts}
use Rattle.session.specs.refusal.Check.TheVariants.{Right as right}
use Rattle.session.specs.Deeds.{Answer, Deed, changing, given, unless, changes as on_lists}
use Rattle.session.specs.Outcomes.{Outcome, finished, refused, reply_of}
use Rattle.session.specs.Trace.{Command, EventValue}
use Rattle.trail_again.proofs.Setting.{masks_on, presets_on}

-- ---- one event

-- the event isn't refused, and these are the tables after it
pub record IsTaken (t : Tables) (e : EventValue) (new : Tables) : Type 0 where
  pub reply : IsOk (outcome t e).reply
  pub tables : (outcome t e).tables ≡ new

module _ (t : Tables) (user : UserId) (bytes : List ℕ) (c : Order) (d : Deed) where
  abbrev k : Caller
  k = line_caller t user None

  finishes : is_known t.owner t.acts user ≡ true → read_line bytes ≡ Ok c → first_fault t (checks t k c) ≡ None
      → does t k c ≡ Ok d
      → outcome t (Command user None bytes) ≡ finished t (verdicts t (checks t k c)) (reply_of 0 0 0 d.lists) d
  finishes known read passes deed =
      ap (λ b. if b then commanded t (line_ruling t k (read_line bytes)) else refused t [] UnknownUser) known
      ∙ ap (λ r. commanded t (line_ruling t k r)) read
      ∙ ap (λ (o : Option Refusal). answered t (verdicts t (checks t k c)) (elim o as (λ _. Answer)
      [ Some r ↦ Err r | None ↦ does t k c ])) passes
      ∙ ap (answered t (verdicts t (checks t k c))) deed

  pub finished_so : is_known t.owner t.acts user ≡ true → read_line bytes ≡ Ok c → first_fault t (checks t k c) ≡ None
      → does t k c ≡ Ok d
      → (new : Tables)
      → (finished t (verdicts t (checks t k c)) (reply_of 0 0 0 d.lists) d).tables ≡ new
      → IsTaken t (Command user None bytes) new
  finished_so known read passes deed new is =
      let same = finishes known read passes deed in
      record {
        reply = subst (λ (o : Outcome). IsOk o.reply) (sym same) refl;
        tables = ap (λ (o : Outcome). o.tables) same ∙ is;
      }

-- ---- commands of a setup

module _ (edition : Edition) (owner : UserId) (h : History) where
  abbrev pub here : Tables
  here = session_after edition owner h

  pub owner_may : (o : Object) → may edition owner h owner Execute o ≡ true
  owner_may o = ap
      (λ b. b || has owner h owner Execute o
      || list_any (λ l. has owner h l Execute o)
      (leaders_of edition h owner)) (same_user-refl owner)

  pub owner_known : is_known owner h owner ≡ true
  owner_known = ap (λ b. b || latest (decides_known owner) false h)
      (same_user-refl owner)

  module _ (user : UserId) (bytes : List ℕ) (c : Order) (acts : List Act)
      (known : is_known owner h user ≡ true)
      (allowed : may edition owner h user Execute (object.Command (order_name c)) ≡ true)
      (read : read_line bytes ≡ Ok c) where
    -- a command that only acts
    pub acts_done : first_fault here (checks_by here (line_caller here user None) (needs c)) ≡ None
        → does here (line_caller here user None) c ≡ Ok (acting here acts)
        → IsTaken here (Command user None bytes) (session_after edition owner (followed_by h acts))
    acts_done others deed =
        let k : Caller = line_caller here user None in
        finished_so here user bytes c (acting here acts) known read
        (ap (λ b. if b then first_fault here (checks_by here k (needs c))
        else Some (refusal_of here (right user Execute (object.Command (order_name c))))) allowed ∙ others) deed
        (session_after edition owner (followed_by h acts))
        (ap (λ (l : List Act). session_after edition owner (followed_by h l)) (append-nil acts))

  -- ---- aclchg

  pub does_change : (k : Caller) (words items : List (List ℕ)) (changes : List BitChange) (us : List UserId)
      (objects : List Object) → map named_by words ≡ map (λ u. Some u) us
      → change_fault owner (users_of owner h) (map (λ u. Some u) us) ≡ None
      → objects_of here items ≡ Some objects
      → does here k (command.Aclchg (users.Listed words) changes items)
      ≡ Ok (acting here (change_acts (users_of owner h) (map (λ u. Some u) us) changes objects))
  unfolding given
  does_change k words items changes us objects named fine there =
      ap (λ ns. on_lists here ns (objects_of here items)
      (λ os. change_acts (users_of owner h) ns changes os)) named
      ∙ ap (λ os. on_lists here (map (λ u. Some u) us) os
      (λ os. change_acts (users_of owner h) (map (λ u. Some u) us) changes os)) there
      ∙ ap (λ (f : Option AclFault). elim f as (λ _. Answer) [
        | Some f ↦ Err (Acl f)
        | None ↦ Ok (acting here (change_acts (users_of owner h) (map (λ u. Some u) us) changes objects))
      ]) fine

  -- ---- aclgrp

  pub does_group : (k : Caller) (word other : List ℕ) (u l : UserId) → named_by word ≡ Some u → named_by other ≡ Some l
      → group_fault edition owner (users_of owner h) (leaders_of edition h) (Some u) (new_leader.Named (Some l)) ≡ None
      → does here k (command.Aclgrp word (Some (leader.Named other)))
      ≡ Ok (acting here (act.Grouped u (Some l) ∷ []))
  unfolding unless
  does_group k word other u l named leads fine =
      (λ j. unless Acl (group_fault edition owner (users_of owner h) (leaders_of edition h) (named j)
      (new_leader.Named (leads j)))
      (acting here (group_acts (named j) (new_leader.Named (leads j)))))
      ∙ ap (λ f. unless Acl f (acting here (act.Grouped u (Some l) ∷ []))) fine

  -- ---- aclumask

  pub does_masks : (k : Caller) (ms : List Mask) (entries : List MaskEntry) → mask_entries here ms ≡ entries
      → mask_fault owner (users_of owner h) entries ≡ None
      → does here k (command.Aclumask ms) ≡ Ok (acting here (mask_acts k.user entries))
  unfolding unless
  does_masks k ms entries same fine =
      ap (λ es. unless Acl (mask_fault owner (users_of owner h) es) (acting here (mask_acts k.user es))) same
      ∙ ap (λ f. unless Acl f (acting here (mask_acts k.user entries))) fine

-- ---- the entries of masks

abbrev pub entries_in : MaskScope → List BitChange → List MaskEntry
entries_in s changes = map (λ (b : BitChange). record { scope = s; bit = b.bit; value = b.value }) changes

pub acts_append : (by : UserId) (xs ys : List MaskEntry) → mask_acts by (xs ++ ys) ≡ mask_acts by xs ++ mask_acts by ys
acts_append by [] ys = refl
acts_append by (x ∷ xs) ys =
    ap (λ (l : List Act). scope_acts by x.scope x.bit x.value ++ l) (acts_append by xs ys)
    ∙ sym (append_assoc (scope_acts by x.scope x.bit x.value) (mask_acts by xs)
    (mask_acts by ys))

pub fault_append : (owner : UserId) (us : List UserId) (xs ys : List MaskEntry) → mask_fault owner us xs ≡ None
    → mask_fault owner us ys ≡ None → mask_fault owner us (xs ++ ys) ≡ None
fault_append owner us [] ys a b = b
fault_append owner us (x ∷ xs) ys a b = at (scope_fault owner us x.scope) a
    (λ e. fault_append owner us xs ys e b)
  where
    at : (o : Option AclFault) → option_or o (mask_fault owner us xs) ≡ None
        → (mask_fault owner us xs ≡ None → mask_fault owner us (xs ++ ys) ≡ None)
        → option_or o (mask_fault owner us (xs ++ ys)) ≡ None
    at None e later = later e
    at (Some f) e later = absurd (cc (e))

pub user_acts_of : (by u : UserId) (changes : List BitChange)
    → mask_acts by (entries_in (scope.User (Some u)) changes) ≡ masks_on by u changes
user_acts_of by u [] = refl
user_acts_of by u (c ∷ cs) = ap (λ (l : List Act). act.Masked by u c.bit c.value ∷ l) (user_acts_of by u cs)

pub preset_acts_of : (by : UserId) (kind : PresetKind) (changes : List BitChange)
    → mask_acts by (entries_in (scope.Preset kind) changes) ≡ presets_on kind changes
preset_acts_of by kind [] = refl
preset_acts_of by kind (c ∷ cs) = ap (λ (l : List Act). act.Preset kind c.bit c.value ∷ l) (preset_acts_of by kind cs)

pub user_fault_of : (owner u : UserId) (us : List UserId) (changes : List BitChange)
    → known_name_fault owner us (Some u) ≡ None
    → mask_fault owner us (entries_in (scope.User (Some u)) changes) ≡ None
user_fault_of owner u us [] known = refl
user_fault_of owner u us (c ∷ cs) known =
    ap (λ f. option_or f (mask_fault owner us (entries_in (scope.User (Some u)) cs))) known
    ∙ user_fault_of owner u us cs known

pub preset_fault_of : (owner : UserId) (kind : PresetKind) (us : List UserId) (changes : List BitChange)
    → mask_fault owner us (entries_in (scope.Preset kind) changes) ≡ None
preset_fault_of owner kind us [] = refl
preset_fault_of owner kind us (c ∷ cs) = preset_fault_of owner kind us cs

-- ---- multiuser

pub multiuser_done : (edition : Edition) (owner : UserId) (bytes : List ℕ)
    → read_line bytes ≡ Ok (command.Multiuser true)
    → IsTaken (fresh edition owner) (Command owner None bytes) (session_after edition owner [])
multiuser_done edition owner bytes read =
    let t : Tables = fresh edition owner in
    finished_so t owner bytes (command.Multiuser true) (changing (record t { is_multiuser = true }))
    (owner_known edition owner []) read
    (ap (λ b. if b then None
    else Some (refusal_of t (right owner Execute (object.Command (order_name (command.Multiuser true))))))
    (owner_may edition owner [] (object.Command (order_name (command.Multiuser true)))))
    refl (session_after edition owner []) refl
