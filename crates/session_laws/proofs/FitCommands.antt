-- Commands keep window numbers below 40, and regions show open windows or nothing.
use Rattle.session_laws.proofs.Vocabulary.{◌≡◌, ℕ, ◌<◌, Bool, true, false, not, List, [], ◌∷◌, Option, Some, None, refl}
use Rattle.session_laws.proofs.Vocabulary.{ap, sym, ◌∙◌, subst, map, filter, ⊎_elim, if◌then◌else◌, ◌==◌, ◌||◌}
use Rattle.session_laws.proofs.Vocabulary.{MatchOption, AllByRecursion, option_and_then, UserId, named_by, Order, Shown}
use Rattle.session_laws.proofs.Vocabulary.{Arrangement, emptied, Reason, Killed, Quit, StatusMessage, Tables, Window}
use Rattle.session_laws.proofs.Vocabulary.{Client, client_at, with_window, with_client, with_layout, Caller, Deed}
use Rattle.session_laws.proofs.Vocabulary.{removes, closes, without_window, without_windows, hearing, does}
use Rattle.session_laws.proofs.Vocabulary.{caller_client, other_way, all_weaken, all_map, all_filter, some_row}
use Rattle.session_model.specs.declared.event.StatusMessage.TheVariants as message
use Rattle.session_laws.proofs.DifferentNumbers.{serial_of}
use Rattle.session_laws.proofs.Doing.{Either}
use Rattle.session_laws.proofs.Moving.{serials}
use Rattle.session_laws.proofs.CommandMoves.{window_serials}
use Rattle.session_laws.proofs.ActsOfMoves.{has}
use Rattle.session_laws.proofs.SmallNumbers.{is_small, small_below}
use Rattle.session_laws.proofs.Showing.{IsThere, ShowsNoOther, some_has, all_row}
use Rattle.session_laws.proofs.Shapes as shapes

-- ---- serials

self_or : (n : ℕ) (b : Bool) → (n == n || b) ≡ true
self_or n b = ap (λ x. x || b) (Rattle.session_laws.proofs.Lists.itself n)

or_true : (a b : Bool) → b ≡ true → (a || b) ≡ true
or_true true b is = refl
or_true false b is = is

pub has_there : (ws : List Window) (w : Window) → IsThere ws w → has (map serial_of ws) w.serial ≡ true
has_there [] w some = absurd some
has_there (v ∷ ws) w some = ⊎_elim
    (λ (here : v ≡ w). ap (λ (x : Window). (x.serial == w.serial) || has (map serial_of ws) w.serial) here
    ∙ self_or w.serial (has (map serial_of ws) w.serial))
    (λ later. or_true (v.serial == w.serial) (has (map serial_of ws) w.serial) (has_there ws w later)) some

-- ---- what holds

-- a region shows one of these windows, or nothing
abbrev pub ShowsIn : List ℕ → Shown → Type 0
ShowsIn ns s = MatchOption s.window (Unit {0}) (λ n. has ns n ≡ true)

abbrev pub PageIn : List ℕ → Client → Type 0
PageIn ns c = AllByRecursion (ShowsIn ns) c.layout.shown

abbrev pub IsBelow : Window → Type 0
IsBelow w = w.number < 40

pub record Holds (t : Tables) : Type 0 where
  pub numbers : AllByRecursion IsBelow t.windows
  pub pages : AllByRecursion (PageIn (serials t)) t.clients

-- the facts hold after a client's row is replaced
pub holds_client : (t : Tables) (c : Client) → PageIn (serials t) c → Holds t → Holds (with_client t c)
holds_client t c here h = record {
  numbers = h.numbers;
  pages = all_row (PageIn (serials t)) (λ (d : Client). d.serial) t.clients c.serial c here h.pages;
}

pub holds_window : (t : Tables) (w : Window) → IsBelow w → Holds t → Holds (with_window t w)
holds_window t w here h = record {
  numbers = all_row IsBelow serial_of t.windows w.serial w here h.numbers;
  pages = subst (λ ns. AllByRecursion (PageIn ns) t.clients) (sym (window_serials t w)) h.pages;
}

-- the facts hold for fewer clients
holds_fewer : (t : Tables) (p : Client → Bool) → Holds t → Holds (record t { clients = filter p t.clients })
holds_fewer t p h = record { numbers = h.numbers; pages = all_filter (PageIn (serials t)) p t.clients h.pages }

pub page_of : (t : Tables) (n : ℕ) (c : Client) → client_at t n ≡ Some c → Holds t → PageIn (serials t) c
page_of t n c is h = some_has (PageIn (serials t)) c t.clients (some_row (λ (d : Client). d.serial) t.clients n c is)
    h.pages

own_page : (t : Tables) (o : Option ℕ) (c : Client) → option_and_then (client_at t) o ≡ Some c → Holds t
    → PageIn (serials t) c
own_page t None c is h = absurd (cc (is))
own_page t (Some n) c is h = page_of t n c is h

-- ---- windows that are closed

module _ (kept : List ℕ) where
  -- a region shows a window that is still to be closed, or one that stays
  abbrev AmongOf : List ℕ → Option ℕ → Type 0
  AmongOf gone o = MatchOption o (Unit {0}) (λ n. (has gone n || has kept n) ≡ true)

  abbrev Among : List ℕ → Client → Type 0
  Among gone c = AllByRecursion (λ (s : Shown). AmongOf gone s.window) c.layout.shown

  emptied_among : (m : ℕ) (gone : List ℕ) (o : Option ℕ) (back : ℕ) → AmongOf (m ∷ gone) o
      → AmongOf gone (emptied m (record { window = o; back = back })).window
  emptied_among m gone None back is = tt
  emptied_among m gone (Some n) back is = on (n == m) refl where
    on : (b : Bool) → (n == m) ≡ b
        → AmongOf gone
        (if b then record { window = None; back = back } else
        (let s : Shown = record { window = Some n; back = back } in s)).window
    on true at = tt
    on false at = sym (ap (λ b. (b || has gone n) || has kept n) (other_way n m at)) ∙ is

  page_among : (m : ℕ) (gone : List ℕ) (shown : List Shown)
      → AllByRecursion (λ (s : Shown). AmongOf (m ∷ gone) s.window) shown
      → AllByRecursion (λ (s : Shown). AmongOf gone s.window) (map (emptied m) shown)
  page_among m gone [] all = tt
  page_among m gone (s ∷ shown) all = (emptied_among m gone s.window s.back all.0, page_among m gone shown all.1)

  clients_among : (m : ℕ) (gone : List ℕ) (cs : List Client) → AllByRecursion (Among (m ∷ gone)) cs
      → AllByRecursion (Among gone) (map (without_window m) cs)
  clients_among m gone [] all = tt
  clients_among m gone (c ∷ cs) all = (page_among m gone c.layout.shown all.0, clients_among m gone cs all.1)

  without_among : (ws : List Window) (cs : List Client) → AllByRecursion (Among (map serial_of ws)) cs
      → AllByRecursion (Among []) (without_windows ws cs)
  without_among [] cs all = all
  without_among (w ∷ ws) cs all = without_among ws (map (without_window w.serial) cs)
      (clients_among w.serial (map serial_of ws) cs all)

-- a window among others either goes or stays
has_some : (goes : Window → Bool) (ws : List Window) (n : ℕ) → has (map serial_of ws) n ≡ true
    → (has (map serial_of (filter goes ws)) n || has (map serial_of (filter (λ w. not (goes w)) ws)) n) ≡ true
has_some goes [] n is = is
has_some goes (w ∷ ws) n is = on (goes w) (w.serial == n) refl is (has_some goes ws n) where
  one : (here a r k : Bool) → (here || r) ≡ true → (r ≡ true → (a || k) ≡ true) → ((here || a) || k) ≡ true
  one true a r k is more = refl
  one false a r k is more = more is

  two : (here a r k : Bool) → (here || r) ≡ true → (r ≡ true → (a || k) ≡ true) → (a || (here || k)) ≡ true
  two true true r k is more = refl
  two true false r k is more = refl
  two false a r k is more = more is

  on : (b here : Bool) → (w.serial == n) ≡ here → (here || has (map serial_of ws) n) ≡ true
      →
      (has (map serial_of ws) n ≡ true
      → (has (map serial_of (filter goes ws)) n || has (map serial_of (filter (λ w. not (goes w)) ws)) n) ≡ true)
      → (has (map serial_of (if b then w ∷ filter goes ws else filter goes ws)) n || has
      (map serial_of (if not b then w ∷ filter (λ w. not (goes w)) ws else filter (λ w. not (goes w)) ws)) n) ≡ true
  on true here at is more = one (w.serial == n) (has (map serial_of (filter goes ws)) n) (has (map serial_of ws) n)
      (has (map serial_of (filter (λ w. not (goes w)) ws)) n) (ap (λ b. b || has (map serial_of ws) n) at ∙ is) more
  on false here at is more = two (w.serial == n) (has (map serial_of (filter goes ws)) n) (has (map serial_of ws) n)
      (has (map serial_of (filter (λ w. not (goes w)) ws)) n) (ap (λ b. b || has (map serial_of ws) n) at ∙ is) more

pub holds_closed : (t : Tables) (goes : Window → Bool) (why : Reason) → Holds t → Holds (closes goes why t).tables
holds_closed t goes why h =
    let kept : List ℕ = map serial_of (filter (λ w. not (goes w)) t.windows) in
    let gone : List Window = filter goes t.windows in record {
      numbers = all_filter IsBelow (λ w. not (goes w)) t.windows h.numbers;
      pages = all_weaken (Among kept []) (PageIn kept) (without_windows gone t.clients) (λ c all. all)
          (without_among kept gone t.clients
          (all_weaken (PageIn (serials t)) (Among kept (map serial_of gone)) t.clients
          (λ c all. all_weaken (ShowsIn (serials t)) (λ (s : Shown). AmongOf kept (map serial_of gone) s.window)
          c.layout.shown (λ s is. among s.window is) all) h.pages));
    } where
      among : (o : Option ℕ) → MatchOption o (Unit {0}) (λ n. has (serials t) n ≡ true)
          → AmongOf (map serial_of (filter (λ w. not (goes w)) t.windows)) (map serial_of (filter goes t.windows)) o
      among None is = tt
      among (Some n) is = has_some goes t.windows n is

-- ---- the kinds

abbrev HoldsBy : Deed → Type 0
HoldsBy d = Holds d.tables

removal_holds : (t : Tables) (o : Option UserId) → Holds t → HoldsBy (removes o t)
removal_holds t None h = h
removal_holds t (Some u) h = holds_fewer t _ h

heard_all : (m : StatusMessage) (ns : List ℕ) (cs : List Client)
    → AllByRecursion (PageIn ns) cs → AllByRecursion (PageIn ns) (map (hearing m) cs)
heard_all m ns cs all = all_map (PageIn ns) (hearing m) cs all

module _ (t : Tables) (k : Caller) (h : Holds t) (row : (w : Window) → k.window ≡ Some w → IsThere t.windows w) where
  -- the window that a command acts on, after a change
  own_window : (w v : Window) → k.window ≡ Some w → v.number ≡ w.number → Holds (with_window t v)
  own_window w v is same = holds_window t v
      (subst (λ n. n < 40) (sym same) (some_has IsBelow w t.windows (row w is) h.numbers)) h

  paged : (c : Client) (l : Arrangement) → caller_client t k ≡ Some c → ShowsNoOther t c l
      → Holds (with_client t (with_layout l c))
  paged c l is shows = holds_client t (with_layout l c)
      (shows (has (serials t)) (has_there t.windows) (own_page t k.client c is h)) h

  deed_holds : (c : Order) (d : Deed) → is_small c ≡ true → shapes.Shape t k c d → HoldsBy d
  deed_holds c d small (shapes.enters_page x l of at shows) = paged x l at shows
  deed_holds c d small (shapes.keeps_page x l of at shows same) = paged x l at shows
  deed_holds c d small (shapes.writes_to w what one at) = own_window w _ at refl
  deed_holds c d small (shapes.opened is) = record { numbers = h.numbers; pages = h.pages }
  deed_holds c d small (shapes.shut is) = record
      { numbers = h.numbers; pages = all_filter (PageIn (serials t)) _ t.clients h.pages }
  deed_holds c d small (shapes.told bytes is) = record
      { numbers = h.numbers; pages = heard_all (message.Text _) (serials t) t.clients h.pages }
  deed_holds c d small (shapes.removed word is clear) = removal_holds t (named_by word) h
  deed_holds c d small (shapes.fitted w rows columns is at) = own_window w _ at refl
  deed_holds c d small (shapes.titled w bytes is at) = own_window w _ at refl
  deed_holds c d small (shapes.numbered w n is at free) = holds_window t (record w { number = n })
      (small_below n (sym (ap is_small is) ∙ small)) h
  deed_holds c d small (shapes.detached x is at) = holds_fewer t _ h
  deed_holds c d small (shapes.killed w is at) = holds_closed t _ Killed h
  deed_holds c d small (shapes.quits is) = holds_fewer (closes (λ w. true) Quit t).tables (λ x. not true)
      (holds_closed t (λ w. true) Quit h)
  deed_holds c d small kind = h

  pub holds : (c : Order) → is_small c ≡ true → Either HoldsBy (does t k c)
  holds c small = shapes.by_shape HoldsBy t k c (λ d is. deed_holds c d small is)
