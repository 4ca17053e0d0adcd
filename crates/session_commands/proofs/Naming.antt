-- The users and objects that words name are those that the definitions find.
use Rattle.session_commands.proofs.Vocabulary.{◌≡◌, ℕ, ◌+◌, ◌<◌, Bool, true, false, List, [], ◌∷◌, ◌++◌, Option, Some}
use Rattle.session_commands.proofs.Vocabulary.{None, length, map, take, drop, get_or, refl, ap, sym, ◌∙◌, inl, inr}
use Rattle.session_commands.proofs.Vocabulary.{append_assoc, append-nil, if◌then◌else◌, not, filter, nat_eq, slice_get}
use Rattle.session_commands.proofs.Vocabulary.{list_any, option_map, option_or, option_and_then, map-append, UserId}
use Rattle.session_commands.proofs.Vocabulary.{Object, same_user, named_by, Refusal, Tables}
use Rattle.session_commands.proofs.Vocabulary.{is_wide, item_objects, objects_of, every_window, every_command, if_true}
use Rattle.session_commands.proofs.Vocabulary.{if_false, mapped_match, WindowStands, StandFor, window_object, wide}
use Rattle.std.specs.Prelude.{cond}
use Rattle.std.specs.Option.{option_eq}
use Rattle.std.proofs.lemmas.List.{drop_more}
use Rattle.std.proofs.lemmas.List.Elements.{filter_more}
use Rattle.std.proofs.lemmas.Option.{slice_get-get_or, get_or_from_slice_get}
use Rattle.acl.specs.declared.act.Object.TheVariants as object
use Rattle.acl.specs.declared.entries.MaskScope.TheVariants as scope
use Rattle.command_lang.specs.declared.command.Users.{Users}
use Rattle.command_lang.specs.declared.command.Users.TheVariants as users
use Rattle.session_model.specs.Tables as model
use Rattle.session_model.specs.Tables.{others}
use Rattle.session_model.specs.Naming.{scopes_of}
use Rattle.windows.specs.declared.window.Window.{Window}
use Rattle.session_commands.specs.Asked.{object_named, NamesNothing, lone_word, names_in}

-- ---- users

module _ (owner : UserId) (users : List UserId) (i : ℕ) (names : List (Option UserId)) (inside : i < length users)
    (before : names ≡ map (λ u. Some u) (filter (λ u. not (same_user owner u)) (take i users))) where
  more : (u : UserId) → Some u ≡ slice_get users i
      → map (λ u. Some u) (filter (λ u. not (same_user owner u)) (take (i + 1) users)) ≡ names ++ map (λ u. Some u)
      (cond (not (same_user owner u)) (u ∷ []) [])
  more u at =
      let here : get_or users i u ≡ u = get_or_from_slice_get users i u u (sym at) in
      let test : UserId → Bool = λ v. not (same_user owner v) in
      ap (map (λ v. Some v))
      (filter_more test users i u inside ∙ ap (λ v. filter test (take i users) ++ cond (test v) (v ∷ []) []) here)
      ∙ map-append (λ v. Some v) (filter test (take i users)) (cond (test u) (u ∷ []) [])
      ∙ ap (λ ns. ns ++ map (λ v. Some v) (cond (test u) (u ∷ []) [])) (sym before)

  none_inside : None ≡ slice_get users i → ⊥
  none_inside at = let there = slice_get-get_or users i owner inside in cc

  -- another user, and the owner
  pub another : (user : Option UserId) → user ≡ slice_get users i → not (option_eq same_user (Some owner) user) ≡ true
      → names ++ user ∷ [] ≡ map (λ u. Some u) (filter (λ u. not (same_user owner u)) (take (i + 1) users))
  another None at is = absurd (none_inside at)
  another (Some u) at is = sym (more u at ∙ ap (λ b. names ++ map (λ v. Some v) (cond b (u ∷ []) [])) is)

  pub the_owner : (user : Option UserId) → user ≡ slice_get users i
      → not (option_eq same_user (Some owner) user) ≡ false
      → names ≡ map (λ u. Some u) (filter (λ u. not (same_user owner u)) (take (i + 1) users))
  the_owner None at is = absurd (none_inside at)
  the_owner (Some u) at is = sym
      (more u at ∙ ap (λ b. names ++ map (λ v. Some v) (cond b (u ∷ []) [])) is ∙ append-nil names)

-- ---- objects

pub wide_parts : (some all : Bool) (old mid new ws cs : List Object) → mid ≡ old ++ (if some then ws else [])
    → new ≡ mid ++ (if all then cs else [])
    → new ≡ old ++ ((if some then ws else []) ++ (if all then cs else []))
wide_parts some all old mid new ws cs first second = second ∙ ap (λ os. os ++ (if all then cs else [])) first
    ∙ append_assoc old (if some then ws else []) (if all then cs else [])

pub put : (b : Bool) (old new ws : List Object) → b ≡ true → new ≡ old ++ ws → new ≡ old ++ (if b then ws else [])
put true old new ws is made = made
put false old new ws is made = absurd (cc (is))

pub put_none : (b : Bool) (old new ws : List Object) → b ≡ false → new ≡ old → new ≡ old ++ (if b then ws else [])
put_none true old new ws is made = absurd (cc (is))
put_none false old new ws is made = made ∙ sym (append-nil old)

pub windows_stand : (t : Tables) (ws : List Window) → StandFor t.windows ws → map window_object ws ≡ every_window t
windows_stand t ws st = mapped_match WindowStands (λ (w : model.Window). object.Window w.serial) window_object
    (λ a b m. ap (λ s. object.Window s) m.serial_is) t.windows ws st

pub wide_stand : (t : Tables) (ws : List Window) (item : List ℕ) → StandFor t.windows ws → is_wide item ≡ true
    → item_objects t item ≡ Some (wide ws item)
wide_stand t ws item st is =
    if_true (is_wide item) _ _ is
    ∙ ap (λ (os : List Object). Some
    ((if list_any (nat_eq 0x23) item then os else []) ++
    (if list_any (nat_eq 0x3F) item then every_command else []))) (sym (windows_stand t ws st))

one_of : {A B C : Type 0} (f : A → C) (g : B → C) (a : Option A) (b : Option B)
    → option_or (option_map (λ x. f x ∷ []) a) (option_map (λ y. g y ∷ []) b) ≡ option_map (λ o. o ∷ [])
    (option_or (option_map f a) (option_map g b))
one_of f g None None = refl
one_of f g None (Some y) = refl
one_of f g (Some x) b = refl

-- what names one object, or nothing
narrow : (t : Tables) (item : List ℕ) → is_wide item ≡ false
    → item_objects t item ≡ option_map (λ o. o ∷ []) (object_named t item)
narrow t item is = if_false (is_wide item) _ _ is
    ∙ one_of object.Command (λ (w : model.Window). object.Window w.serial) _ _

pub one_named : (t : Tables) (item : List ℕ) (o : Object) → is_wide item ≡ false → Some o ≡ object_named t item
    → item_objects t item ≡ Some (o ∷ [])
one_named t item o is named = narrow t item is ∙ ap (option_map (λ x. x ∷ [])) (sym named)

regrouped : (objects more : List Object) (rest : Option (List Object))
    → option_map (λ os. objects ++ os) (option_map (λ os. more ++ os) rest) ≡ option_map (λ os. (objects ++ more) ++ os)
    rest
regrouped objects more None = refl
regrouped objects more (Some os) = ap (λ xs. Some xs) (sym (append_assoc objects more os))

module _ (t : Tables) (list : List (List ℕ)) (i : ℕ) (item : List ℕ) (objects : List Object) (inside : i < length list)
    (at : item ≡ get_or list i item) where
  here : objects_of t (drop i list) ≡ objects_of t (item ∷ drop (i + 1) list)
  here = ap (objects_of t) (drop_more list i item inside ∙ ap (λ x. x ∷ drop (i + 1) list) (sym at))

  pub item_unnamed : item_objects t item ≡ None → objects_of t (drop i list) ≡ None
  item_unnamed is = here
      ∙ ap (option_and_then (λ xs. option_map (λ ys. xs ++ ys) (objects_of t (drop (i + 1) list)))) is

pub nothing_named : (P Q : Type 0) (r s : Refusal) → s ≡ r → (P → Q) → NamesNothing r P → NamesNothing s Q
nothing_named P Q r s is on (inl e) = inl (is ∙ e)
nothing_named P Q r s is on (inr p) = inr (is ∙ p.0, on p.1)

-- ---- masks

map_map : {A B C : Type 0} (g : B → C) (f : A → B) (xs : List A) → map g (map f xs) ≡ map (λ x. g (f x)) xs
map_map g f [] = refl
map_map g f (x ∷ xs) = ap (λ ys. g (f x) ∷ ys) (map_map g f xs)

pub other_scopes : (t : Tables) (u : Option Users) → lone_word u ≡ None → map scope.User (names_in t u) ≡ scopes_of t u
other_scopes t (Some (users.Listed (w ∷ []))) is = absurd (cc (is))
other_scopes t (Some (users.Listed (w ∷ v ∷ ws))) is = map_map scope.User named_by (w ∷ v ∷ ws)
other_scopes t (Some (users.Listed [])) is = refl
other_scopes t (Some users.All) is = map_map scope.User (λ u. Some u) (others t)
other_scopes t None is = map_map scope.User (λ u. Some u) (others t)
