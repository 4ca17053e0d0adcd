-- The same words name the same windows, users and objects in sessions that are alike.
use Rattle.session_alike.proofs.Vocabulary.{◌≡◌, ℕ, false, not, List, [], ◌∷◌, ◌++◌, Option, Some, None, refl, ap, ◌∙◌}
use Rattle.session_alike.proofs.Vocabulary.{map, filter, if◌then◌else◌, ◌==◌, nat_eq, nat_lt, flat_map, list_any}
use Rattle.session_alike.proofs.Vocabulary.{range_with_len, option_and_then, option_map, option_or, bytes_eq, Object}
use Rattle.session_alike.proofs.Vocabulary.{MaskEntry, MaskScope, BitChange, UserId, BothOrNone, Matched, is_taken}
use Rattle.session_alike.proofs.Vocabulary.{mask_entries, entries_of, every_command, every_window, free_number}
use Rattle.session_alike.proofs.Vocabulary.{has_number, higher, highest, is_wide, item_objects, lower, lowest, names_of}
use Rattle.session_alike.proofs.Vocabulary.{objects_of, scopes_of, spelled, wide_objects, window_after, window_before}
use Rattle.session_alike.proofs.Vocabulary.{window_named, with_number, Tables, Window, by_number, in_order, Renaming}
use Rattle.session_alike.proofs.Vocabulary.{object_as, TablesAlike, WindowsAlike, any_both, filter_match, find_match}
use Rattle.session_alike.proofs.Vocabulary.{find_same, made_both, map_append, or_both, pick, read_one, read_or}
use Rattle.acl.specs.declared.act.Object.TheVariants as object
use Rattle.acl.specs.declared.entries.MaskScope.TheVariants as scope
use Rattle.command_lang.specs.declared.command.Users.TheVariants as users
use Rattle.session_alike.proofs.Checking.{needed_as}
use Rattle.session_alike.proofs.Finding.{others_alike}
use Rattle.session_alike.proofs.Histories.{window_test}
use Prim.Native.Char.{code}
use Rattle.acl.specs.declared.command_name.CommandName.{CommandName}
use Rattle.command_lang.specs.declared.command.Mask.{Mask}
use Rattle.command_lang.specs.declared.command.Users.{Users}
use Rattle.command_lang.specs.Names.{all_names, command_named}
use Rattle.windows_model.specs.declared.rows.TheConstants.{WINDOWS}

abbrev scoped : Mask → List MaskScope → List MaskEntry
scoped m ss = flat_map (λ s. map (λ (b : BitChange). record { scope = s; bit = b.bit; value = b.value }) m.bits) ss

module _ (n : Renaming) where
  abbrev One : Option Window → Option Window → Type 0
  One o p = BothOrNone (WindowsAlike n) o p

  abbrev All : List Window → List Window → Type 0
  All ws vs = Matched (WindowsAlike n) ws vs

  -- ---- numbers

  number_test : (m : ℕ) (w v : Window) → WindowsAlike n w v → has_number m v ≡ has_number m w
  number_test m w v r = ap (λ x. x == m) r.number

  pub below : (w v : Window) → WindowsAlike n w v → (x y : Window) → WindowsAlike n x y
      → nat_lt v.number y.number ≡ nat_lt w.number x.number
  below w v r x y s = cc (r.number, s.number)

  numbered_both : (ws vs : List Window) → All ws vs → (m : ℕ) → One (with_number ws m) (with_number vs m)
  numbered_both ws vs m k = find_match (WindowsAlike n) (has_number k) (has_number k) (number_test k) ws vs m

  pub given_number_both : (ws vs : List Window) → All ws vs → (o : Option ℕ)
      → One (option_and_then (with_number ws) o) (option_and_then (with_number vs) o)
  given_number_both ws vs m None = tt
  given_number_both ws vs m (Some k) = numbered_both ws vs m k

  lower_both : (w v : Window) → WindowsAlike n w v → (o p : Option Window) → One o p → One (lower w o) (lower v p)
  lower_both w v r None None m = r
  lower_both w v r (Some x) (Some y) m =
      pick One (nat_lt x.number w.number) (nat_lt y.number v.number) (below x y m w v r) m r
  lower_both w v r o p m = absurd m

  pub lowest_both : (ws vs : List Window) → All ws vs → One (lowest ws) (lowest vs)
  lowest_both [] [] m = tt
  lowest_both (w ∷ ws) (v ∷ vs) m = lower_both w v m.0 (lowest ws) (lowest vs) (lowest_both ws vs m.1)
  lowest_both ws vs m = absurd m

  higher_both : (w v : Window) → WindowsAlike n w v → (o p : Option Window) → One o p → One (higher w o) (higher v p)
  higher_both w v r None None m = r
  higher_both w v r (Some x) (Some y) m =
      pick One (nat_lt w.number x.number) (nat_lt v.number y.number) (below w v r x y m) m r
  higher_both w v r o p m = absurd m

  highest_both : (ws vs : List Window) → All ws vs → One (highest ws) (highest vs)
  highest_both [] [] m = tt
  highest_both (w ∷ ws) (v ∷ vs) m = higher_both w v m.0 (highest ws) (highest vs) (highest_both ws vs m.1)
  highest_both ws vs m = absurd m

  pub free_both : (ws vs : List Window) → All ws vs → free_number vs ≡ free_number ws
  free_both ws vs m =
      find_same (λ k. not (list_any (has_number k) ws)) (λ k. not (list_any (has_number k) vs))
      (range_with_len 0 WINDOWS)
      (λ k. ap not (any_both (WindowsAlike n) (has_number k) (has_number k) (number_test k) ws vs m))

  -- ---- words

  titled_both : (word : List ℕ) (ws vs : List Window) → All ws vs
      → All (filter (λ (w : Window). bytes_eq w.title word) ws) (filter (λ (w : Window). bytes_eq w.title word) vs)
  titled_both word ws vs m =
      filter_match (WindowsAlike n) (λ (w : Window). bytes_eq w.title word) (λ (w : Window). bytes_eq w.title word)
      (λ w v r. ap (λ title. bytes_eq title word) r.title) ws vs m

  pub named_both : (ws vs : List Window) → All ws vs → (word : List ℕ)
      → One (window_named ws word) (window_named vs word)
  named_both ws vs m word =
      or_both (WindowsAlike n) (option_and_then (with_number ws) (spelled word))
      (lowest (filter (λ (w : Window). bytes_eq w.title word) ws)) (option_and_then (with_number vs) (spelled word))
      (lowest (filter (λ (w : Window). bytes_eq w.title word) vs)) (given_number_both ws vs m (spelled word))
      (lowest_both (filter (λ (w : Window). bytes_eq w.title word) ws)
      (filter (λ (w : Window). bytes_eq w.title word) vs) (titled_both word ws vs m))

  pub after_both : (ws vs : List Window) → All ws vs → (o p : Option Window) → One o p
      → One (window_after ws o) (window_after vs p)
  after_both ws vs m None None r = lowest_both ws vs m
  after_both ws vs m (Some w) (Some v) r =
      or_both (WindowsAlike n) (lowest (filter (λ (x : Window). nat_lt w.number x.number) ws)) (lowest ws)
      (lowest (filter (λ (x : Window). nat_lt v.number x.number) vs)) (lowest vs)
      (lowest_both _ _
      (filter_match (WindowsAlike n) (λ (x : Window). nat_lt w.number x.number)
      (λ (x : Window). nat_lt v.number x.number) (λ x y s. below w v r x y s) ws vs m))
      (lowest_both ws vs m)
  after_both ws vs m o p r = absurd r

  pub before_both : (ws vs : List Window) → All ws vs → (o p : Option Window) → One o p
      → One (window_before ws o) (window_before vs p)
  before_both ws vs m None None r = highest_both ws vs m
  before_both ws vs m (Some w) (Some v) r =
      or_both (WindowsAlike n) (highest (filter (λ (x : Window). nat_lt x.number w.number) ws)) (highest ws)
      (highest (filter (λ (x : Window). nat_lt x.number v.number) vs)) (highest vs)
      (highest_both _ _
      (filter_match (WindowsAlike n) (λ (x : Window). nat_lt x.number w.number)
      (λ (x : Window). nat_lt x.number v.number) (λ x y s. below x y s w v r) ws vs m))
      (highest_both ws vs m)
  before_both ws vs m o p r = absurd r

  -- ---- the order of a list

  placed_both : (w v : Window) → WindowsAlike n w v → (ws vs : List Window) → All ws vs
      → All (by_number w ws) (by_number v vs)
  placed_both w v r [] [] m = (r, tt)
  placed_both w v r (x ∷ ws) (y ∷ vs) m = pick All (nat_lt w.number x.number) (nat_lt v.number y.number)
      (below w v r x y m.0) (r, m) (m.0, placed_both w v r ws vs m.1)
  placed_both w v r ws vs m = absurd m

  pub order_both : (ws vs : List Window) → All ws vs → All (in_order ws) (in_order vs)
  order_both [] [] m = tt
  order_both (w ∷ ws) (v ∷ vs) m = placed_both w v m.0 (in_order ws) (in_order vs) (order_both ws vs m.1)
  order_both ws vs m = absurd m

  -- ---- objects and users

  commands_as : (cs : List CommandName) → map object.Command cs ≡ map (object_as n) (map object.Command cs)
  commands_as [] = refl
  commands_as (c ∷ cs) = ap (λ os. object.Command c ∷ os) (commands_as cs)

  objects_joined : (o p : Option (List Object))
      → option_and_then (λ objects. option_map (λ more. objects ++ more) (option_map (map (object_as n)) p))
      (option_map (map (object_as n)) o)
      ≡ option_map (map (object_as n)) (option_and_then (λ objects. option_map (λ more. objects ++ more) p) o)
  objects_joined None p = refl
  objects_joined (Some xs) None = refl
  objects_joined (Some xs) (Some ys) = ap Some (map_append (object_as n) xs ys _ _ refl refl)

  command_or : (o : Option CommandName) (p q : Option (List Object)) → q ≡ option_map (map (object_as n)) p
      → option_or (option_map (λ c. object.Command c ∷ []) o) q
      ≡ option_map (map (object_as n)) (option_or (option_map (λ c. object.Command c ∷ []) o) p)
  command_or None p q same = same
  command_or (Some c) p q same = refl

  module _ (t u : Tables) (a : TablesAlike n t u) where
    windows_alike : every_window u ≡ map (object_as n) (every_window t)
    windows_alike =
        made_both (WindowsAlike n) (object_as n) (λ (w : Window). object.Window w.serial)
        (λ (w : Window). object.Window w.serial) t.windows u.windows (λ w v r. ap object.Window r.serial) a.windows

    pub every_alike : every_window u ++ every_command ≡ map (object_as n) (every_window t ++ every_command)
    every_alike = map_append (object_as n) (every_window t) every_command _ _ windows_alike (commands_as all_names)

    wide_alike : (item : List ℕ) → wide_objects u item ≡ map (object_as n) (wide_objects t item)
    wide_alike item =
        map_append (object_as n) (if list_any (nat_eq (code "#")) item then every_window t else [])
        (if list_any (nat_eq (code "?")) item then every_command else []) _ _
        (needed_as (object_as n) (list_any (nat_eq (code "#")) item) (every_window t) (every_window u) windows_alike)
        (needed_as (object_as n) (list_any (nat_eq (code "?")) item) every_command every_command
        (commands_as all_names))

    item_alike : (item : List ℕ) → item_objects u item ≡ option_map (map (object_as n)) (item_objects t item)
    item_alike item = pick (λ o p. p ≡ option_map (map (object_as n)) o) (is_wide item) (is_wide item) refl
        (ap Some (wide_alike item))
        (command_or (command_named item)
        (option_map (λ (w : Window). object.Window w.serial ∷ []) (window_named t.windows item)) _
        (read_one (WindowsAlike n) (map (object_as n)) (λ (w : Window). object.Window w.serial ∷ [])
        (λ (w : Window). object.Window w.serial ∷ []) (window_named t.windows item) (window_named u.windows item)
        (λ w v r. ap (λ s. object.Window s ∷ []) r.serial) (named_both t.windows u.windows a.windows item)))

    pub objects_alike : (items : List (List ℕ))
        → objects_of u items ≡ option_map (map (object_as n)) (objects_of t items)
    objects_alike [] = refl
    objects_alike (item ∷ items) =
        ap (λ o. option_and_then (λ objects. option_map (λ more. objects ++ more) (objects_of u items)) o)
        (item_alike item)
        ∙ ap (λ o. option_and_then (λ objects. option_map (λ more. objects ++ more) o)
        (option_map (map (object_as n)) (item_objects t item))) (objects_alike items)
        ∙ objects_joined (item_objects t item) (objects_of t items)

    pub names_alike : (us : Users) → names_of u us ≡ names_of t us
    names_alike users.All = ap (map (λ (v : UserId). Some v)) (others_alike n t u a)
    names_alike (users.Listed words) = refl

    scopes_alike : (us : Option Users) → scopes_of u us ≡ scopes_of t us
    scopes_alike (Some (users.Listed [])) = refl
    scopes_alike (Some (users.Listed (word ∷ []))) = refl
    scopes_alike (Some (users.Listed (word ∷ words))) = refl
    scopes_alike (Some users.All) = ap (map (λ (v : UserId). scope.User (Some v))) (others_alike n t u a)
    scopes_alike None = ap (map (λ (v : UserId). scope.User (Some v))) (others_alike n t u a)

    entries_alike : (m : Mask) → entries_of u m ≡ entries_of t m
    entries_alike m = ap (scoped m) (scopes_alike m.users)

    pub masks_alike : (ms : List Mask) → mask_entries u ms ≡ mask_entries t ms
    masks_alike [] = refl
    masks_alike (m ∷ ms) = cc (entries_alike m, masks_alike ms)

    pub taken_alike : (w v : Window) → WindowsAlike n w v → (m : ℕ) → is_taken u v m ≡ is_taken t w m
    taken_alike w v r m = read_or (WindowsAlike n) (λ (x : Window). not (x.serial == w.serial))
        (λ (x : Window). not (x.serial == v.serial)) false (with_number t.windows m) (with_number u.windows m)
        (numbered_both t.windows u.windows a.windows m)
        (λ x y s. cc (s.serial, r.serial, window_test n x.serial w.serial))
