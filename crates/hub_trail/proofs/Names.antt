-- A list command that was done has an act for each name in its first word.
use Rattle.hub_trail.proofs.Vocabulary.{◌≡◌, true, [], ◌∷◌, ◌++◌, map, filter, AllByRecursion, list_any, option_or}
use Rattle.hub_trail.proofs.Vocabulary.{or_left, UserId, Act, NewLeader, named_by, added, sets, new_name_fault}
use Rattle.hub_trail.proofs.Vocabulary.{with_name, known_name_fault, group_acts, known_acts, names_sets, same_user-refl}
use Rattle.hub_trail.proofs.Vocabulary.{Refusal, Acl, Windows, NoSuchWindow, Window, Client, known_users}
use Rattle.hub_trail.proofs.Vocabulary.{group_fault_in, names_of, new_leader_of, Caller, Answer, acting, removes, is_of}
use Rattle.hub_trail.proofs.Vocabulary.{does, first_names}
use Rattle.std.proofs.Common.{List, Option, Some, None, Ok, Err, refl}
use Rattle.acl.specs.declared.act.Object.{Object}
use Rattle.acl.specs.declared.act.Object.TheVariants as object
use Rattle.acl.specs.declared.act.Act.TheVariants as act
use Rattle.acl.specs.declared.entries.AclFault.{AclFault}
use Rattle.acl.specs.Commands.{change_fault}
use Rattle.command_lang.specs.declared.command.Command.{Command}
use Rattle.command_lang.specs.declared.command.Command.TheVariants as command
use Rattle.command_lang.specs.declared.command.Users.TheVariants as users
use Rattle.session.specs.Tables.{Tables}
use Rattle.session.specs.Rights.{add_acts_in}
use Rattle.session.specs.Naming.{every_window, every_command}
use Rattle.session.specs.Deeds.{Deed, given, unless}
use Rattle.session.proofs.Quiet.{Of}
use Rattle.hub_trail.specs.Legal.{is_act_of, has_act_of}
use Rattle.hub_trail.proofs.Sights.{any_behind, any_before}

abbrev pub HasEach : List Act → List (Option UserId) → Type 0
HasEach acts names = AllByRecursion (λ name. has_act_of acts name ≡ true) names

-- more acts come before and after
each_more : (before acts : List Act) (names : List (Option UserId)) → HasEach acts names
    → HasEach (before ++ acts) names
each_more before acts [] has = tt
each_more before acts (None ∷ names) has = absurd (cc (has.0))
each_more before acts (Some u ∷ names) has =
    (any_behind (is_act_of u) before acts has.0, each_more before acts names has.1)

pub each_then : (acts more : List Act) (names : List (Option UserId)) → HasEach acts names
    → HasEach (acts ++ more) names
each_then acts more [] has = tt
each_then acts more (None ∷ names) has = absurd (cc (has.0))
each_then acts more (Some u ∷ names) has = (any_before (is_act_of u) acts more has.0, each_then acts more names has.1)

-- ---- acladd

-- there is an object at least
abbrev IsSome : List Object → Type 0
IsSome [] = ⊥
IsSome (o ∷ objects) = Unit {0}

some_object : (ws : List Window) → IsSome (map (λ (w : Window). object.Window w.serial) ws ++ every_command)
some_object [] = tt
some_object (w ∷ ws) = tt

set_there : (u : UserId) (objects : List Object) (more : List Act) → IsSome objects
    → list_any (is_act_of u) (sets u added objects ++ more) ≡ true
set_there u [] more some = absurd some
set_there u (o ∷ objects) more some = or_left _ _ (same_user-refl u)

rest_none : {X : Type 0} (o p : Option X) → option_or o p ≡ None → p ≡ None
rest_none None p e = e
rest_none (Some x) p e = absurd (cc (e))

each_set : (owner : UserId) (known : List UserId) (names : List (Option UserId)) (objects : List Object)
    → IsSome objects
    → change_fault owner known names ≡ None → HasEach (names_sets objects names) names
each_set owner known [] objects some none = tt
each_set owner known (None ∷ names) objects some none = absurd (cc (none))
each_set owner known (Some u ∷ names) objects some none = (
  set_there u objects (names_sets objects names) some,
  each_more (sets u added objects) (names_sets objects names) names
      (each_set owner (with_name known (Some u)) names objects some
      (rest_none (new_name_fault owner known (Some u)) (change_fault owner (with_name known (Some u)) names) none)),
)

-- ---- done commands

-- a command is done with what is known if there is no fault
done_unless : {F : Type 0} (P : Deed → Type 0) (of : F → Refusal) (o : Option F) (d : Deed) → (o ≡ None → P d)
    → Of P (unless of o d)
unfolding unless
done_unless P of None d p = p refl
done_unless P of (Some f) d p = tt

anyway : (P : Deed → Type 0) → ((d : Deed) → P d) → (a : Answer) → Of P a
anyway P p (Ok d) = p d
anyway P p (Err r) = tt

abbrev pub HasFirst : Tables → Command → Deed → Type 0
HasFirst t c d = HasEach d.acts (first_names t.owner t.acts c)

done_some : {X : Type 0} (P : Deed → Type 0) (x : X) (r : Refusal) (f : X → Answer) → Of P (f x)
    → Of P (given (Some x) r f)
unfolding given
done_some P x r f p = p

done_adding : (t : Tables) (names : List (Option UserId)) (f : Option AclFault)
    → change_fault t.owner (known_users t) names ≡ f
    → Of (λ d. HasEach d.acts names)
    (elim f [
      | Some f ↦ Err (Acl f)
      | None ↦ given (Some (every_window t ++ every_command)) (Windows NoSuchWindow)
          (λ all. Ok (acting t (add_acts_in t names all)))
    ])
done_adding t names (Some f) e = tt
done_adding t names None e =
    let objects : List Object = every_window t ++ every_command in
    done_some (λ d. HasEach d.acts names) objects (Windows NoSuchWindow)
    (λ all. Ok (acting t (add_acts_in t names all)))
    (each_more (known_acts (known_users t) names) (names_sets objects names) names
    (each_set t.owner (known_users t) names objects (some_object t.windows) e))

done_removal : (t : Tables) (o : Option UserId) → known_name_fault t.owner (known_users t) o ≡ None
    → HasEach (removes o t).acts (o ∷ [])
done_removal t None none = absurd (cc (none))
done_removal t (Some u) none = (
  any_behind (is_act_of u) (map (λ (c : Client). act.Parted c.serial) (filter (is_of u) t.clients)) (act.Gone u ∷ [])
      (or_left _ _ (same_user-refl u)),
  tt,
)

done_grouping : (t : Tables) (o : Option UserId) (l : NewLeader) → group_fault_in t o l ≡ None
    → HasEach (group_acts o l) (o ∷ [])
done_grouping t None l none = absurd (cc (none))
done_grouping t (Some u) l none = (or_left _ _ (same_user-refl u), tt)

pub has_first : (t : Tables) (k : Caller) (c : Command) → Of (HasFirst t c) (does t k c)
has_first t k (command.Acladd users.All) = done_adding t (names_of t users.All)
    (change_fault t.owner (known_users t) (names_of t users.All)) refl
has_first t k (command.Acladd (users.Listed words)) = done_adding t (names_of t (users.Listed words))
    (change_fault t.owner (known_users t) (names_of t (users.Listed words))) refl
has_first t k (command.Acldel word) = done_unless (HasFirst t (command.Acldel word)) Acl _ (removes (named_by word) t)
    (done_removal t (named_by word))
has_first t k (command.Aclgrp word (Some leader)) =
    done_unless (HasFirst t (command.Aclgrp word (Some leader))) Acl _
    (acting t (group_acts (named_by word) (new_leader_of leader)))
    (done_grouping t (named_by word) (new_leader_of leader))
has_first t k c = anyway (HasFirst t c) (λ d. tt) (does t k c)
