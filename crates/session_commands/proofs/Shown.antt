-- In fit tables, the window in focus is open after each change of a page.
use Rattle.session_commands.proofs.Vocabulary.{◌≡◌, ℕ, zero, suc, Bool, true, false, List, [], ◌∷◌, ◌++◌, take, drop}
use Rattle.session_commands.proofs.Vocabulary.{Option, Some, None, ◌∙◌, subst, slice_get, if◌then◌else◌, ◌==◌}
use Rattle.session_commands.proofs.Vocabulary.{AllByRecursion, option_and_then, Shown, remove_focused, Tables, row_of}
use Rattle.session_commands.proofs.Vocabulary.{client_at, focused, with_layout, AreFit, IsOpenThere}
use Rattle.std.specs.Prelude.{slice_set}
use Rattle.std.specs.List.{remove}
use Rattle.session_model.specs.Tables.{Client}
use Rattle.session_model.specs.Sound.{IsOpen, ShowsOpen}

abbrev pub window_in : Shown → Option ℕ
window_in s = s.window

-- a fact of what each region shows is one of what any shows, or there is none
module _ (P : Option ℕ → Type 0) where
  abbrev pub EachShows : List Shown → Type 0
  EachShows all = AllByRecursion (λ (s : Shown). P s.window) all

  pub at_any : (all : List Shown) (i : ℕ) → P None → EachShows all → P (option_and_then window_in (slice_get all i))
  at_any [] i none is = none
  at_any (s ∷ all) zero none is = is.0
  at_any (s ∷ all) (suc i) none is = at_any all i none is.1

  of_append : (a b : List Shown) → EachShows a → EachShows b → EachShows (a ++ b)
  of_append [] b x y = y
  of_append (s ∷ a) b x y = (x.0, of_append a b x.1 y)

  of_take : (n : ℕ) (all : List Shown) → EachShows all → EachShows (take n all)
  of_take zero all is = tt
  of_take (suc n) [] is = tt
  of_take (suc n) (s ∷ all) is = (is.0, of_take n all is.1)

  of_drop : (n : ℕ) (all : List Shown) → EachShows all → EachShows (drop n all)
  of_drop zero all is = is
  of_drop (suc n) [] is = tt
  of_drop (suc n) (s ∷ all) is = of_drop n all is.1

  pub of_removed : (all : List Shown) (i : ℕ) → EachShows all → EachShows (remove all i)
  of_removed all i is = of_append (take i all) (drop (suc i) all) (of_take i all is) (of_drop (suc i) all is)

  -- what was just put there
  pub at_set : (all : List Shown) (i : ℕ) (s : Shown) → P None → P s.window
      → P (option_and_then window_in (slice_get (slice_set all i s) i))
  at_set [] i s none is = none
  at_set (r ∷ all) zero s none is = is
  at_set (r ∷ all) (suc i) s none is = at_set all i s none is

-- ---- in fit tables

all_by : (b : Bool) (P : Client → Type 0) (d c : Client) (o : Option Client) → (if b then Some d else o) ≡ Some c → P d
    → (o ≡ Some c → P c) → P c
all_by true P d c o is p on = subst P (let e : d ≡ c = cc (is) in e) p
all_by false P d c o is p on = on is

row_has : (P : Client → Type 0) (cs : List Client) (s : ℕ) (c : Client)
    → row_of (λ (d : Client). d.serial) cs s ≡ Some c → AllByRecursion P cs → P c
row_has P [] s c is all = absurd (cc (is))
row_has P (d ∷ cs) s c is all = all_by (d.serial == s) P d c _ is all.0 (λ on. row_has P cs s c on all.1)

opened : (t : Tables) → AreFit t → (o : Option ℕ) → IsOpen t o → IsOpenThere t o
opened t fit None is = tt
opened t fit (Some w) is = fit.agree.open_is w ∙ is

shows_open : (t : Tables) (serial : ℕ) (c : Client) → AreFit t → client_at t serial ≡ Some c → ShowsOpen t c
shows_open t serial c fit at = row_has (ShowsOpen t) t.clients serial c at fit.shown

-- the window in any region
pub open_at : (t : Tables) (serial : ℕ) (c : Client) (i : ℕ) → AreFit t → client_at t serial ≡ Some c
    → IsOpenThere t (focused (with_layout (record c.layout { focus = i }) c))
open_at t serial c i fit at = opened t fit _ (at_any (IsOpen t) c.layout.shown i tt (shows_open t serial c fit at))

-- the window in focus once a region was closed
pub open_removed : (t : Tables) (serial : ℕ) (c : Client) → AreFit t → client_at t serial ≡ Some c
    → IsOpenThere t (focused (with_layout (remove_focused c.layout) c))
open_removed t serial c fit at =
    opened t fit _
    (at_any (IsOpen t) (remove c.layout.shown c.layout.focus) _ tt
    (of_removed (IsOpen t) c.layout.shown c.layout.focus (shows_open t serial c fit at)))
