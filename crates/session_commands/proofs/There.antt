-- The objects that items name are there: open windows, or commands.
use Rattle.session_commands.proofs.Vocabulary.{◌≡◌, ℕ, Bool, true, false, List, [], ◌∷◌, ◌++◌, Option, Some, None}
use Rattle.session_commands.proofs.Vocabulary.{filter, refl, ap, subst, ◌∙◌, if◌then◌else◌, IfSome, is_some, nat_lt}
use Rattle.session_commands.proofs.Vocabulary.{nat_eq, find, ◌==◌, AllByRecursion, list_any, option_map, option_or}
use Rattle.session_commands.proofs.Vocabulary.{option_and_then, Object, is_open, there, Window, Tables, row_of}
use Rattle.session_commands.proofs.Vocabulary.{with_number, lower, lowest, window_named, is_wide, item_objects}
use Rattle.session_commands.proofs.Vocabulary.{objects_of, every_window, every_command, if_true, same_number}
use Rattle.std.specs.List.{All}
use Rattle.std.specs.Str.{bytes_eq}
use Rattle.std.proofs.lemmas.List.Elements.{All-from_recursion, All-nil, All-cons, All-append, All-map}
use Rattle.acl.specs.declared.act.Object.TheVariants as object
use Rattle.acl.specs.declared.command_name.CommandName.{CommandName}
use Rattle.command_lang.specs.Names.{all_names, command_named}
use Rattle.session_model.specs.Naming.{spelled, has_number, wide_objects}
use Rattle.session_model.specs.Sound.{ActsAgree}
use Rattle.windows_model.proofs.Serials.{by_if}

-- ---- rows that are there

all_weaker : {A : Type 0} (P Q : A → Type 0) → ((a : A) → P a → Q a) → (xs : List A) → AllByRecursion P xs
    → AllByRecursion Q xs
all_weaker P Q on [] all = tt
all_weaker P Q on (x ∷ xs) all = (on x all.0, all_weaker P Q on xs all.1)

found_later : {A : Type 0} (b : Bool) (x : A) (o : Option A) → is_some o ≡ true
    → is_some (if b then Some x else o) ≡ true
found_later true x o is = refl
found_later false x o is = is

each_found : {A : Type 0} (f : A → ℕ) (rows : List A) → AllByRecursion (λ x. is_some (row_of f rows (f x)) ≡ true) rows
each_found f [] = tt
each_found f (x ∷ rows) = (
  ap is_some (if_true (f x == f x) (Some x) (row_of f rows (f x)) (same_number (f x))),
  all_weaker _ _ (λ y. found_later (f x == f y) x (row_of f rows (f y))) rows (each_found f rows),
)

abbrev IsThere : Tables → Object → Type 0
IsThere t o = there t.acts o ≡ true

each_open : (t : Tables) → ActsAgree t → AllByRecursion (λ (w : Window). is_open t.acts w.serial ≡ true) t.windows
each_open t agree = all_weaker _ _ (λ (w : Window) is. agree.open_is w.serial ∙ is) t.windows
    (each_found (λ (w : Window). w.serial) t.windows)

-- ---- windows that are named

module _ (Q : Window → Type 0) where
  one_by : (b : Bool) (w : Window) (o : Option Window) → Q w → IfSome o Q → IfSome (if b then Some w else o) Q
  one_by true w o q more = q
  one_by false w o q more = more

  either : (a b : Option Window) → IfSome a Q → IfSome b Q → IfSome (option_or a b) Q
  either None b p q = q
  either (Some w) b p q = p

  find_one : (p : Window → Bool) (ws : List Window) → AllByRecursion Q ws → IfSome (find p ws) Q
  find_one p [] all = tt
  find_one p (w ∷ ws) all = one_by (p w) w (find p ws) all.0 (find_one p ws all.1)

  lower_one : (w : Window) (o : Option Window) → Q w → IfSome o Q → IfSome (lower w o) Q
  lower_one w None q more = q
  lower_one w (Some v) q more = one_by (nat_lt v.number w.number) v (Some w) more q

  lowest_one : (ws : List Window) → AllByRecursion Q ws → IfSome (lowest ws) Q
  lowest_one [] all = tt
  lowest_one (w ∷ ws) all = lower_one w (lowest ws) all.0 (lowest_one ws all.1)

  all_by : (b : Bool) (w : Window) (ws : List Window) → Q w → AllByRecursion Q ws
      → AllByRecursion Q (if b then w ∷ ws else ws)
  all_by true w ws q all = (q, all)
  all_by false w ws q all = all

  filter_all : (p : Window → Bool) (ws : List Window) → AllByRecursion Q ws → AllByRecursion Q (filter p ws)
  filter_all p [] all = tt
  filter_all p (w ∷ ws) all = all_by (p w) w (filter p ws) all.0 (filter_all p ws all.1)

  numbered_one : (ws : List Window) (o : Option ℕ) → AllByRecursion Q ws → IfSome (option_and_then (with_number ws) o) Q
  numbered_one ws None all = tt
  numbered_one ws (Some n) all = find_one (has_number n) ws all

  named_one : (ws : List Window) (word : List ℕ) → AllByRecursion Q ws → IfSome (window_named ws word) Q
  named_one ws word all =
      either (option_and_then (with_number ws) (spelled word)) (lowest (filter (λ w. bytes_eq w.title word) ws))
      (numbered_one ws (spelled word) all)
      (lowest_one (filter (λ w. bytes_eq w.title word) ws) (filter_all (λ w. bytes_eq w.title word) ws all))

-- ---- objects that are named

windows_there : (t : Tables) → ActsAgree t → All (IsThere t) (every_window t)
windows_there t agree = All-map (IsThere t) (λ (w : Window). object.Window w.serial) t.windows
    (All-from_recursion (λ (w : Window). is_open t.acts w.serial ≡ true) t.windows (each_open t agree))

commands_there : (t : Tables) → All (IsThere t) every_command
commands_there t = All-map (IsThere t) object.Command all_names (λ k d lt. refl)

pub all_there : (t : Tables) → ActsAgree t → All (IsThere t) (every_window t ++ every_command)
all_there t agree = All-append (IsThere t) (every_window t) every_command (windows_there t agree) (commands_there t)

module _ (t : Tables) (agree : ActsAgree t) where
  wide_by : (some all : Bool)
      → All (IsThere t) ((if some then every_window t else []) ++ (if all then every_command else []))
  wide_by some all =
      All-append (IsThere t) _ _
      (by_if (All (IsThere t)) some (every_window t) [] (windows_there t agree) (All-nil (IsThere t)))
      (by_if (All (IsThere t)) all every_command [] (commands_there t) (All-nil (IsThere t)))

  one_there : (c : Option CommandName) (w : Option Window) → IfSome w (λ v. is_open t.acts v.serial ≡ true)
      → IfSome
      (option_or (option_map (λ x. object.Command x ∷ []) c)
      (option_map (λ (v : Window). object.Window v.serial ∷ []) w)) (All (IsThere t))
  one_there (Some c) w is = All-cons (IsThere t) (object.Command c) [] refl (All-nil (IsThere t))
  one_there None (Some w) is = All-cons (IsThere t) (object.Window w.serial) [] is (All-nil (IsThere t))
  one_there None None is = tt

  by_wide : (b : Bool) (os : List Object) (o : Option (List Object)) → All (IsThere t) os → IfSome o (All (IsThere t))
      → IfSome (if b then Some os else o) (All (IsThere t))
  by_wide true os o p q = p
  by_wide false os o p q = q

  item_there : (item : List ℕ) → IfSome (item_objects t item) (All (IsThere t))
  item_there item =
      by_wide (is_wide item) (wide_objects t item) _
      (wide_by (list_any (nat_eq 0x23) item) (list_any (nat_eq 0x3F) item))
      (one_there (command_named item) (window_named t.windows item)
      (named_one (λ (v : Window). is_open t.acts v.serial ≡ true) t.windows item (each_open t agree)))

  both_there : (a b : Option (List Object)) → IfSome a (All (IsThere t)) → IfSome b (All (IsThere t))
      → IfSome (option_and_then (λ objects. option_map (λ more. objects ++ more) b) a) (All (IsThere t))
  both_there None b p q = tt
  both_there (Some xs) None p q = tt
  both_there (Some xs) (Some ys) p q = All-append (IsThere t) xs ys p q

  each_there : (list : List (List ℕ)) → IfSome (objects_of t list) (All (IsThere t))
  each_there [] = All-nil (IsThere t)
  each_there (item ∷ items) = both_there (item_objects t item) (objects_of t items) (item_there item) (each_there items)

  -- the objects of a list's items are there
  pub objects_there : (list : List (List ℕ)) (objects : List Object) → objects_of t list ≡ Some objects
      → All (IsThere t) objects
  objects_there list objects is = subst (λ o. IfSome o (All (IsThere t))) is (each_there list)
