-- What is named is there: windows, the objects of lists, and the windows that clients show.
use Rattle.hub_trail.proofs.Vocabulary.{◌≡◌, ◌∙◌, ℕ, Bool, true, false, List, [], ◌∷◌, ◌++◌, Option, Some, None, map}
use Rattle.hub_trail.proofs.Vocabulary.{filter, refl, sym, subst, inl, inr, ⊎_elim, if◌then◌else◌, MatchOption, is_some}
use Rattle.hub_trail.proofs.Vocabulary.{nat_eq, AllByRecursion, list_any, option_map, option_or, option_and_then}
use Rattle.hub_trail.proofs.Vocabulary.{Object, CommandName, is_open, there, all_names, command_named, AreFit, Tables}
use Rattle.hub_trail.proofs.Vocabulary.{Window, Client, window_at, focused, lowest, window_named, is_wide, wide_objects}
use Rattle.hub_trail.proofs.Vocabulary.{item_objects, objects_of, every_window, every_command, has, has_row, IsThere}
use Rattle.hub_trail.proofs.Vocabulary.{lowest_there, number_there, has_there, Holds, all_append, all_map, all_of}
use Rattle.hub_trail.proofs.Vocabulary.{all_weaken, serials, SameClients}
use Rattle.std.specs.Prelude.{IfSome, slice_get, unwrap_or}
use Rattle.std.specs.Str.{bytes_eq}
use Rattle.acl.specs.declared.act.Object.TheVariants as object
use Rattle.session.specs.Naming.{spelled, with_number}
use Rattle.regions.specs.declared.layout.Shown.{Shown}
use Rattle.regions.specs.Layouts.{empty}
use Rattle.session.specs.Sound.{IsOpen, ShowsOpen}
use Rattle.session.specs.Promises.{unread}
use Rattle.session.proofs.Showing.{get_all}
use Rattle.session.proofs.FitCommands.{ShowsIn, PageIn}
use Rattle.session.proofs.Lists.{members}

-- ---- windows that are named

filter_there : (p : Window → Bool) (ws : List Window) (w : Window) → IsThere (filter p ws) w → IsThere ws w
filter_there p [] w some = some
filter_there p (v ∷ ws) w some = on (p v) some (filter_there p ws w) where
  on : (b : Bool) → IsThere (if b then v ∷ filter p ws else filter p ws) w → (IsThere (filter p ws) w → IsThere ws w)
      → IsThere (v ∷ ws) w
  on true some more = ⊎_elim (λ (here : v ≡ w). inl here) (λ later. inr (more later)) some
  on false some more = inr (more some)

either_there : (ws : List Window) (a b : Option Window) (w : Window) → (a ≡ Some w → IsThere ws w)
    → (b ≡ Some w → IsThere ws w) → option_or a b ≡ Some w → IsThere ws w
either_there ws None b w one two is = two is
either_there ws (Some v) b w one two is = one is

named_there : (ws : List Window) (word : List ℕ) (w : Window) → window_named ws word ≡ Some w → IsThere ws w
named_there ws word w is =
    either_there ws (option_and_then (with_number ws) (spelled word))
    (lowest (filter (λ (v : Window). bytes_eq v.title word) ws)) w
    (λ at. number_there ws (spelled word) w at) (λ at. filter_there _ ws w (lowest_there _ w at)) is

-- by the acts, each window of the tables is open
abbrev pub OpenIs : Tables → Type 0
OpenIs t = (w : ℕ) → is_open t.acts w ≡ is_some (window_at t w)

abbrev pub AreThere : Tables → List Object → Type 0
AreThere t objects = AllByRecursion (λ o. there t.acts o ≡ true) objects

module _ (t : Tables) (agree : OpenIs t) where
  pub listed_open : (n : ℕ) → has (serials t) n ≡ true → is_open t.acts n ≡ true
  listed_open n is = agree n ∙ has_row t.windows n ∙ is

  pub there_open : (w : Window) → IsThere t.windows w → is_open t.acts w.serial ≡ true
  there_open w is = listed_open w.serial (has_there t.windows w is)

  -- ---- objects

  windows_there : AreThere t (every_window t)
  windows_there =
      all_map (λ o. there t.acts o ≡ true) (λ (w : Window). object.Window w.serial) t.windows
      (all_weaken (λ w. IsThere t.windows w) (λ w. is_open t.acts w.serial ≡ true) t.windows there_open
      (members t.windows))

  commands_there : AreThere t every_command
  commands_there = all_map (λ o. there t.acts o ≡ true) object.Command all_names
      (all_of (λ c. there t.acts (object.Command c) ≡ true) all_names (λ c. refl))

  pub every_there : AreThere t (every_window t ++ every_command)
  every_there = all_append (λ o. there t.acts o ≡ true) (every_window t) every_command windows_there commands_there

  wide_there : (b c : Bool) → AreThere t ((if b then every_window t else []) ++ (if c then every_command else []))
  wide_there true true = every_there
  wide_there true false = all_append (λ o. there t.acts o ≡ true) (every_window t) [] windows_there tt
  wide_there false true = commands_there
  wide_there false false = tt

  one_there : (c : Option CommandName) (o : Option Window) → ((w : Window) → o ≡ Some w → IsThere t.windows w)
      → IfSome
      (option_or (option_map (λ x. object.Command x ∷ []) c)
      (option_map (λ (w : Window). object.Window w.serial ∷ []) o)) (AreThere t)
  one_there (Some c) o is = (refl, tt)
  one_there None (Some w) is = (there_open w (is w refl), tt)
  one_there None None is = tt

  if_wide : (b : Bool) (objects : List Object) (o : Option (List Object)) → AreThere t objects → IfSome o (AreThere t)
      → IfSome (if b then Some objects else o) (AreThere t)
  if_wide true objects o these those = these
  if_wide false objects o these those = those

  item_there : (item : List ℕ) → IfSome (item_objects t item) (AreThere t)
  item_there item =
      if_wide (is_wide item) (wide_objects t item) _
      (wide_there (list_any (nat_eq 0x23) item) (list_any (nat_eq 0x3F) item))
      (one_there (command_named item) (window_named t.windows item) (named_there t.windows item))

  more_there : (a b : Option (List Object)) → IfSome a (AreThere t) → IfSome b (AreThere t)
      → IfSome (option_and_then (λ objects. option_map (λ more. objects ++ more) b) a) (AreThere t)
  more_there None b these those = tt
  more_there (Some xs) None these those = tt
  more_there (Some xs) (Some ys) these those = all_append (λ o. there t.acts o ≡ true) xs ys these those

  items_there : (items : List (List ℕ)) → IfSome (objects_of t items) (AreThere t)
  items_there [] = tt
  items_there (item ∷ items) = more_there (item_objects t item) (objects_of t items) (item_there item)
      (items_there items)

  -- ---- what clients show

  pub focus_open : (c : Client) → PageIn (serials t) c
      → MatchOption (focused c) (Unit {0}) (λ n. is_open t.acts n ≡ true)
  focus_open c page = on (slice_get c.layout.shown c.layout.focus)
      (get_all (ShowsIn (serials t)) c.layout.shown c.layout.focus empty tt page) where
        shown : (o : Option ℕ) → MatchOption o (Unit {0}) (λ n. has (serials t) n ≡ true)
            → MatchOption o (Unit {0}) (λ n. is_open t.acts n ≡ true)
        shown None is = tt
        shown (Some n) is = listed_open n is

        on : (o : Option Shown) → ShowsIn (serials t) (unwrap_or o empty)
            → MatchOption (option_and_then (λ (s : Shown). s.window) o) (Unit {0}) (λ n. is_open t.acts n ≡ true)
        on None is = tt
        on (Some s) is = shown s.window is

-- the objects of a list
pub list_there : (t : Tables) (agree : OpenIs t) (items : List (List ℕ)) (objects : List Object)
    → objects_of t items ≡ Some objects → AreThere t objects
list_there t agree items objects is = subst (λ o. IfSome o (AreThere t)) is (items_there t agree items)

-- ---- fit tables

shown_in : (t : Tables) (o : Option ℕ) → IsOpen t o → MatchOption o (Unit {0}) (λ n. has (serials t) n ≡ true)
shown_in t None is = tt
shown_in t (Some n) is = sym (has_row t.windows n) ∙ is

pub fit_holds : (t : Tables) → AreFit t → Holds t
fit_holds t f = record {
  numbers = f.numbered;
  pages = all_weaken (ShowsOpen t) (PageIn (serials t)) t.clients
      (λ c page. all_weaken (λ (s : Shown). IsOpen t s.window) (ShowsIn (serials t)) c.layout.shown
      (λ s is. shown_in t s.window is) page) f.shown;
}

read_pages : (ns : List ℕ) (cs : List Client) → AllByRecursion (PageIn ns) (map unread cs)
    → AllByRecursion (PageIn ns) cs
read_pages ns [] all = tt
read_pages ns (c ∷ cs) all = (all.0, read_pages ns cs all.1)

-- clients that have read keys and were sent a message show the same windows
pub same_holds : (t : Tables) (cs : List Client) → SameClients t cs → Holds t → Holds (record t { clients = cs })
same_holds t cs same h = record {
  numbers = h.numbers;
  pages = read_pages (serials t) cs
      (subst (AllByRecursion (PageIn (serials t))) (sym same) (all_map (PageIn (serials t)) unread t.clients h.pages));
}
