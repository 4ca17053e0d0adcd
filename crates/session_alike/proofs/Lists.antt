-- List commands, and the ends of clients and windows, do the same in sessions that are alike.
use Rattle.session_alike.proofs.Vocabulary.{◌≡◌, ℕ, true, not, List, [], ◌∷◌, Option, Some, None, refl, ap, ◌∙◌, map}
use Rattle.session_alike.proofs.Vocabulary.{length, if◌then◌else◌, ◌&&◌, nat_le, option_map, option_map_or, Act, Object}
use Rattle.session_alike.proofs.Vocabulary.{MaskEntry, NewLeader, Edition, UserId, change_fault, leader_fault}
use Rattle.session_alike.proofs.Vocabulary.{mask_fault, among, leaders_with, named_by, same_user, BothOrNone, Acl}
use Rattle.session_alike.proofs.Vocabulary.{Windows, changing_bits, known_fault, leaders_named, Answer, Deed, both}
use Rattle.session_alike.proofs.Vocabulary.{changes, closes, is_of, parts, removes, add_acts_in, group_fault_in}
use Rattle.session_alike.proofs.Vocabulary.{leaders_in, Tables, known_users, group_text, Renaming, act_as, object_as}
use Rattle.session_alike.proofs.Vocabulary.{TablesAlike, EffectsAlike, append_match, map_append, cases_both}
use Rattle.acl.specs.declared.act.Act.TheVariants as act
use Rattle.session_model.specs.declared.event.Reason.TheVariants as reason
use Rattle.session_model.specs.rows.WindowsFault.TheVariants as fault
use Rattle.session_alike.proofs.Changing.{AnswersAlike, DeedsAlike, acting_alike, closes_alike, declined, done, deed_as}
use Rattle.session_alike.proofs.Changing.{parts_alike}
use Rattle.session_alike.proofs.Answering.{given_alike, mapped_one, same_one}
use Rattle.session_alike.proofs.Finding.{leaders_alike, users_alike}
use Rattle.session_alike.proofs.Granting.{add_acts_as, change_acts_as}
use Rattle.acl.specs.declared.entries.NewLeader.TheVariants.{Named, Nobody}
use Rattle.acl.specs.declared.entries.AclFault.TheVariants.{NoSuchGroup, OwnerKept, TooManyGroups}

abbrev pub Same : List ℕ → List ℕ → Type 0
Same x y = y ≡ x

-- ---- faults

led_same : (edition : Edition) (owner : UserId) (users : List UserId) (f g : UserId → List UserId)
    (same : (u : UserId) → g u ≡ f u) (name : Option UserId) (leader : NewLeader)
    → leader_fault edition owner users g name leader ≡ leader_fault edition owner users f name leader
led_same edition owner users f g same name Nobody = refl
led_same edition owner users f g same name (Named None) = refl
led_same edition owner users f g same None (Named (Some leader)) = refl
led_same edition owner users f g same (Some u) (Named (Some leader)) =
    ap (λ ls. if same_user owner leader then Some OwnerKept
    else (if not (among users leader && not (same_user u leader)) then Some NoSuchGroup
    else (if nat_le (length (leaders_with edition (Some leader) ls)) 8 then None else Some TooManyGroups))) (same u)

module _ (n : Renaming) (t u : Tables) (a : TablesAlike n t u) where
  abbrev pub D : Deed → Deed → Type 0
  D d e = DeedsAlike n t.acts u.acts d e

  abbrev pub A : Answer → Answer → Type 0
  A x y = AnswersAlike n Same t.acts u.acts x y

  pub change_fault_alike : (names : List (Option UserId))
      → change_fault u.owner (known_users u) names ≡ change_fault t.owner (known_users t) names
  change_fault_alike names = cc (a.owner, users_alike n t u a)

  pub known_fault_alike : (word : List ℕ) → known_fault u word ≡ known_fault t word
  known_fault_alike word = cc (a.owner, users_alike n t u a)

  pub mask_fault_alike : (es : List MaskEntry)
      → mask_fault u.owner (known_users u) es ≡ mask_fault t.owner (known_users t) es
  mask_fault_alike es = cc (a.owner, users_alike n t u a)

  pub group_fault_alike : (name : Option UserId) (leader : NewLeader)
      → group_fault_in u name leader ≡ group_fault_in t name leader
  group_fault_alike name leader =
      let led = led_same t.edition t.owner (known_users t) (leaders_in t) (leaders_in u) (leaders_alike n t u a) name in
      cc (a.edition, a.owner, users_alike n t u a, led leader)

  pub leaders_named_alike : (word : List ℕ) → leaders_named u word ≡ leaders_named t word
  leaders_named_alike word = on (named_by word) where
    on : (o : Option UserId)
        → option_map_or (λ v. group_text v (leaders_in u v)) o [] ≡ option_map_or (λ v. group_text v (leaders_in t v)) o
        []
    on None = refl
    on (Some v) = ap (group_text v) (leaders_alike n t u a v)

  -- ---- list commands

  pub changes_alike : (names others : List (Option UserId)) → others ≡ names → (os ps : Option (List Object))
      → ps ≡ option_map (map (object_as n)) os → (f g : List Object → List Act)
      → ((all : List Object) → g (map (object_as n) all) ≡ map (act_as n) (f all))
      → A (changes t names os f) (changes u others ps g)
  changes_alike names others same os ps objects f g acts =
      cases_both A (change_fault t.owner (known_users t) names) (change_fault u.owner (known_users u) others)
      (same_one _ _ (ap (change_fault u.owner (known_users u)) same ∙ change_fault_alike names))
      (given_alike n Same t.acts u.acts (λ x y. y ≡ map (object_as n) x) os ps (Windows fault.NoSuchWindow) _ _
      (mapped_one (map (object_as n)) os ps objects)
      (λ x y is. done (acting_alike n t u a (f x) (g y) (ap g is ∙ acts x)) tt)) (λ x y is. declined (ap Acl is))

  pub adding : (names others : List (Option UserId)) → others ≡ names → (all : List Object)
      → add_acts_in u others (map (object_as n) all) ≡ map (act_as n) (add_acts_in t names all)
  adding names others same all = cc (users_alike n t u a, same, add_acts_as n (known_users t) names all)

  pub setting : (names others : List (Option UserId)) → others ≡ names
      → (bits : List Rattle.acl.specs.declared.bits.BitChange.BitChange) (all : List Object)
      → changing_bits u others bits (map (object_as n) all) ≡ map (act_as n) (changing_bits t names bits all)
  setting names others same bits all = cc (users_alike n t u a, same, change_acts_as n (known_users t) names bits all)

  pub removes_alike : (o : Option UserId) → D (removes o t) (removes o u)
  removes_alike None = acting_alike n t u a [] [] refl
  removes_alike (Some v) =
      let d : D (parts (is_of v) reason.Removed t) (parts (is_of v) reason.Removed u) =
      parts_alike n t u a (is_of v) (is_of v) reason.Removed
      (λ c d r. ap (λ (x : UserId). same_user x v) r.user) in deed_as
      (map_append (act_as n) (parts (is_of v) reason.Removed t).acts (act.Gone v ∷ []) _ _ d.acts refl) d.tables
      d.effects

  pub no_list : (o : Option UserId) → BothOrNone Same (removes o t).lists (removes o u).lists
  no_list None = tt
  no_list (Some v) = tt

  pub quits_alike : D (both (closes (λ w. true) reason.Quit t) (parts (λ c. true) reason.Quit))
      (both (closes (λ w. true) reason.Quit u) (parts (λ c. true) reason.Quit))
  quits_alike =
      let d : D (closes (λ w. true) reason.Quit t) (closes (λ w. true) reason.Quit u) =
      closes_alike n t u a (λ w. true) (λ w. true) reason.Quit (λ w v r. refl) in
      let e : D (parts (λ c. true) reason.Quit (closes (λ w. true) reason.Quit t).tables)
      (parts (λ c. true) reason.Quit (closes (λ w. true) reason.Quit u).tables) =
      parts_alike n (closes (λ w. true) reason.Quit t).tables (closes (λ w. true) reason.Quit u).tables d.tables
      (λ c. true) (λ c. true) reason.Quit (λ c d r. refl) in deed_as
      (map_append (act_as n) (closes (λ w. true) reason.Quit t).acts _ _ _ d.acts e.acts) e.tables
      (append_match (EffectsAlike n) (closes (λ w. true) reason.Quit t).effects _ _ _ d.effects e.effects)
