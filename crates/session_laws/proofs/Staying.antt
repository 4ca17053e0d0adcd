-- After each event, the tables are fit.
use Rattle.session_laws.proofs.Vocabulary.{◌≡◌, ℕ, zero, suc, ◌+◌, ◌<◌, Bool, true, false, List, [], ◌∷◌, ◌++◌, Option}
use Rattle.session_laws.proofs.Vocabulary.{Some, None, Ok, Err, Result, refl, ap, sym, ◌∙◌, subst, map, take, find}
use Rattle.session_laws.proofs.Vocabulary.{arith, if◌then◌else◌, ◌==◌, ◌||◌, MatchOption, unwrap_or, not}
use Rattle.session_laws.proofs.Vocabulary.{AllByRecursion, list_any, range_with_len, option_map, Edition, UserId, Order}
use Rattle.session_laws.proofs.Vocabulary.{ParseFault, Item, bound, line, Shown, View, Effect, StatusMessage, Refusal}
use Rattle.session_laws.proofs.Vocabulary.{EventValue, Draw, Entry, Tables, Window, Client, fresh, client_at}
use Rattle.session_laws.proofs.Vocabulary.{with_client, focused, lowest, free_number, has_number, Caller, caller_of}
use Rattle.session_laws.proofs.Vocabulary.{line_caller, read_line, checks, first_fault, verdicts, Deed, Answer}
use Rattle.session_laws.proofs.Vocabulary.{changing, closes, hearing, does, taken, step_items, typed_bytes}
use Rattle.session_laws.proofs.Vocabulary.{command_item, outcome, Outcome, finished, done, reply_of, new_client, opens}
use Rattle.session_laws.proofs.Vocabulary.{new_window, outputs, reading, told, ordered, keyed, with_listed, message_of}
use Rattle.session_laws.proofs.Vocabulary.{granted_view, drawn, drawn_on, with_drawn, after, tables_from, unread}
use Rattle.session_laws.proofs.Vocabulary.{ShowsOpen, AreFit, all_weaken, all_append, all_map, all_filter}
use Rattle.session_model.specs.declared.event.Reason.TheVariants as reason
use Rattle.session_model.specs.Answering as answering
use Rattle.session_model.specs.Sound.{IsOpen}
use Rattle.session_laws.proofs.DifferentNumbers.{serial_of}
use Rattle.session_laws.proofs.Doing.{Either}
use Rattle.session_laws.proofs.Moving.{serials}
use Rattle.session_laws.proofs.Unread.{SameClients, typing_clients}
use Rattle.session_laws.proofs.Settling.{told_same}
use Rattle.session_laws.proofs.ActsOfMoves.{has, has_row, has_append}
use Rattle.session_laws.proofs.Sounding.{lasting, map_append, fresh_sound}
use Rattle.session_laws.proofs.ActsOfRuns.{acts_agree, fresh_agrees}
use Rattle.session_laws.proofs.SmallNumbers.{is_small, is_small_order, read_small, keys_small}
use Rattle.session_laws.proofs.Showing.{lowest_there, number_there, at_there, some_has}
use Rattle.session_laws.proofs.FitCommands.{ShowsIn, PageIn, IsBelow, Holds, holds_client, holds_window, holds_closed}
use Rattle.session_laws.proofs.FitCommands.{holds, page_of, has_there}
use Rattle.session_laws.proofs.Outcomes as outcomes

-- ---- messages

told_holds : (w : Tables) (client : ℕ) (m : StatusMessage) → Holds w → Holds (told w client m)
told_holds w client m h = told_same Holds w client m h
    (λ c is. holds_client w (hearing m c) (page_of w client c is h) h)

-- ---- keys

keyed_holds : (v : Tables) (client : ℕ) (m : List ℕ → StatusMessage) (a : Answer) → Holds v
    → Either (λ d. Holds d.tables) a
    → Holds (keyed v client m a).tables
keyed_holds v client m (Err r) h plain = told_holds v client _ h
keyed_holds v client m (Ok d) h all = on d.lists where
  on : (o : Option (List ℕ)) → Holds (with_listed client m o d).tables
  on None = all
  on (Some bytes) = told_holds d.tables client (m bytes) all

order_holds : (v : Tables) (d : Client) (order : Order) → is_small order ≡ true → Holds v
    → Holds (answering.by_line v d (Ok order)).deed.tables
order_holds v d order small h = on (first_fault v (checks v (caller_of v d) order)) where
  on : (o : Option Refusal)
      → Holds
      (keyed v d.serial (message_of order)
      (elim o as (λ _. Answer) [ Some r ↦ Err r | None ↦ does v (caller_of v d) order ])).tables
  on (Some r) = told_holds v d.serial _ h
  on None = keyed_holds v d.serial (message_of order) (does v (caller_of v d) order) h
      (holds v (caller_of v d) h (λ w is. at_there v (focused d) w is) order small)

read_holds : (v : Tables) (d : Client) (r : Result Order ParseFault)
    → ((order : Order) → r ≡ Ok order → is_small order ≡ true) → Holds v → Holds (answering.by_line v d r).deed.tables
read_holds v d (Err f) small h = told_holds v d.serial _ h
read_holds v d (Ok order) small h = order_holds v d order (small order refl) h

item_holds : (v : Tables) (d : Client) (item : Option Item) → is_small_order item ≡ true → Holds v
    → Holds (ordered v d item).deed.tables
item_holds v d (Some (bound order)) small h = order_holds v d order small h
item_holds v d (Some (line (b ∷ bs))) small h = read_holds v d (read_line (b ∷ bs))
    (λ order is. read_small (b ∷ bs) order is) h
item_holds v d item small h = h

-- the same clients, keys and messages aside, have the same pages
pages_read : (ns : List ℕ) (cs : List Client) → AllByRecursion (PageIn ns) (map unread cs)
    → AllByRecursion (PageIn ns) cs
pages_read ns [] all = tt
pages_read ns (c ∷ cs) all = (all.0, pages_read ns cs all.1)

same_holds : (t : Tables) (cs : List Client) → SameClients t cs → Holds t → Holds (record t { clients = cs })
same_holds t cs same h = record {
  numbers = h.numbers;
  pages = pages_read (serials t) cs
      (subst (AllByRecursion (PageIn (serials t))) (sym same) (all_map (PageIn (serials t)) unread t.clients h.pages));
}

-- ---- what comes

range_below : (from len : ℕ) → AllByRecursion (λ n. n < from + len) (range_with_len from len)
range_below from zero = tt
range_below from (suc len) = (
  omega arith,
  all_weaken (λ n. n < from + 1 + len) (λ n. n < from + suc len) (range_with_len (from + 1) len)
      (λ n lt. omega (arith, lt)) (range_below (from + 1) len),
)

found_below : (p : ℕ → Bool) (ns : List ℕ) → AllByRecursion (λ n. n < 40) ns → unwrap_or (find p ns) 0 < 40
found_below p [] all = omega arith
found_below p (n ∷ ns) all = on (p n) (found_below p ns all.1) where
  on : (b : Bool) → unwrap_or (find p ns) 0 < 40 → unwrap_or (if b then Some n else find p ns) 0 < 40
  on true rest = all.0
  on false rest = rest

free_below : (ws : List Window) → unwrap_or (free_number ws) 0 < 40
free_below ws = found_below (λ n. not (list_any (has_number n) ws)) (range_with_len 0 40)
    (all_weaken (λ n. n < 0 + 40) (λ n. n < 40) (range_with_len 0 40) (λ n lt. omega (arith, lt)) (range_below 0 40))

first_shown : (ws : List Window) (o : Option Window) → lowest ws ≡ o
    → MatchOption (option_map serial_of o) (Unit {0}) (λ n. has (map serial_of ws) n ≡ true)
first_shown ws None is = tt
first_shown ws (Some w) is = has_there ws w (lowest_there ws w is)

more_shown : (t : Tables) (n : ℕ) → AllByRecursion (PageIn (serials t)) t.clients
    → AllByRecursion (PageIn (serials t ++ n ∷ [])) t.clients
more_shown t n all = all_weaken (PageIn (serials t)) (PageIn (serials t ++ n ∷ [])) t.clients
    (λ c page. all_weaken (ShowsIn (serials t)) (ShowsIn (serials t ++ n ∷ [])) c.layout.shown (λ s is. one s.window is)
    page) all where
      one : (o : Option ℕ) → MatchOption o (Unit {0}) (λ m. has (serials t) m ≡ true)
          → MatchOption o (Unit {0}) (λ m. has (serials t ++ n ∷ []) m ≡ true)
      one None is = tt
      one (Some m) is = has_append (serials t) (n ∷ []) m ∙ ap (λ b. b || has (n ∷ []) m) is

opened : (t : Tables) (user : UserId) (w : Window) → IsBelow w → Holds t → Holds (opens t user w).tables
opened t user w below h = record {
  numbers = all_append IsBelow t.windows (w ∷ []) h.numbers (below, tt);
  pages = subst (λ ns. AllByRecursion (PageIn ns) t.clients) (sym (map_append serial_of t.windows w))
      (more_shown t w.serial h.pages);
}

-- ---- events

abbrev HoldsIn : Outcome → Type 0
HoldsIn o = Holds o.tables

-- the facts hold for any acts
by_deed : (u v : Tables) → v.windows ≡ u.windows → v.clients ≡ u.clients → Holds u → Holds v
by_deed u v windows clients h = record {
  numbers = subst (AllByRecursion IsBelow) (sym windows) h.numbers;
  pages = subst (λ ws. AllByRecursion (PageIn (map serial_of ws)) v.clients) (sym windows)
      (subst (AllByRecursion (PageIn (serials u))) (sym clients) h.pages);
}

ended : (t : Tables) (d : Deed) (vs : List Rattle.session_model.specs.declared.refusal.Verdict.Verdict)
    (reply : Rattle.session_model.specs.Trace.Reply) → Holds d.tables → HoldsIn (finished t vs reply d)
ended t d vs reply h = by_deed d.tables (finished t vs reply d).tables refl refl h

happened : (t : Tables) (event : EventValue) (o : Outcome) → outcomes.Happens t event o → Holds t → HoldsIn o
happened t _ _ (outcomes.failed event vs r why) h = h
happened t _ _ (outcomes.changed event x c is f at) h =
    ended t (changing (with_client t (x.row c))) [] done
    (holds_client t (x.row c) (f.shows (has (serials t)) c (page_of t x.client c at h)) h)
happened t _ _ (outcomes.attached user rows columns passes) h =
    let c : Client = new_client t user rows columns in
    record {
      numbers = h.numbers;
      pages = all_append (PageIn (serials t)) t.clients (c ∷ []) h.pages
          ((first_shown t.windows (lowest t.windows) refl, tt), tt);
    }
happened t _ _ (outcomes.detached client c at) h =
    record {
      numbers = h.numbers;
      pages = all_filter (PageIn (serials t)) (λ (d : Client). not (d.serial == client))
          t.clients h.pages;
    }
happened t _ _ (outcomes.keyed client bytes c is) h =
    let read : List ℕ = take (taken c.keys bytes) bytes in
    let items : List Item = step_items c bytes in
    typing_clients
    (λ v. HoldsIn
    (finished t [] done (record (ordered v (reading read c) (command_item items)).deed { effects = [] }))) t client
    c (reading read c) (typed_bytes items) is refl refl
    (λ cs same. ended t
    (record (ordered (record t { clients = cs }) (reading read c) (command_item items)).deed { effects = [] }) []
    done
    (item_holds (record t { clients = cs }) (reading read c) (command_item items) (keys_small c bytes)
    (same_holds t cs same h)))
happened t _ _ (outcomes.obeyed user number bytes c d known read passes is) h =
    let k : Caller = line_caller t user number in
    ended t d (verdicts t (checks t k c)) (reply_of 0 0 0 d.lists)
    (subst (Either (λ (e : Deed). Holds e.tables)) is
    (holds t k h (λ w at. number_there t.windows number w at) c (read_small bytes c read)))
happened t _ _ (outcomes.opened user rows columns keep title passes) h =
    let v : Window = new_window t rows columns keep title in ended t (opens t user v) [] done
    (opened t user v (free_below t.windows) h)
happened t _ _ (outcomes.wrote window bytes v is) h =
    ended t (outputs t v bytes) [] done
    (holds_window t _ (some_has IsBelow v t.windows (at_there t (Some window) v is) h.numbers) h)
happened t _ _ (outcomes.closed window w at) h =
    ended t (closes (λ v. v.serial == window) reason.Detached t) [] done
    (holds_closed t (λ v. v.serial == window) reason.Detached h)
happened t _ _ (outcomes.drew client c at) h = ended t (changing t) [] done h

pub held : (t : Tables) (event : EventValue) → Holds t → HoldsIn (outcome t event)
held t event h = happened t event (outcome t event) (outcomes.happens t event) h

-- ---- draws

drawn_page : (ns : List ℕ) (effects : List Effect) (v : View) (c : Client) → PageIn ns c
    → PageIn ns (with_drawn effects v c)
drawn_page ns [] v c page = page
drawn_page ns (f ∷ effects) v c page = page

drawn_holds : (u : Tables) (client : ℕ) (effects : List Effect) (o : Option Client) → client_at u client ≡ o → Holds u
    → Holds (drawn_on o effects u)
drawn_holds u client effects None is h = h
drawn_holds u client effects (Some c) is h = holds_client u (with_drawn effects (granted_view u c) c)
    (drawn_page (serials u) effects (granted_view u c) c (page_of u client c is h)) h

pub after_holds : (t : Tables) (event : EventValue) (effects : List Effect) → Holds t
    → Holds (drawn event effects (outcome t event).tables)
after_holds t (Draw client) effects h =
    let u : Tables = (outcome t (Draw client)).tables in drawn_holds u client effects (client_at u client) refl
    (held t (Draw client) h)
after_holds t event effects h = held t event h

-- ---- fit

in_open : (t : Tables) (o : Option ℕ) → MatchOption o (Unit {0}) (λ n. has (serials t) n ≡ true) → IsOpen t o
in_open t None is = tt
in_open t (Some n) is = has_row t.windows n ∙ is

open_in : (t : Tables) (o : Option ℕ) → IsOpen t o → MatchOption o (Unit {0}) (λ n. has (serials t) n ≡ true)
open_in t None is = tt
open_in t (Some n) is = sym (has_row t.windows n) ∙ is

pub fit_after : (t : Tables) (e : Entry) → AreFit t → AreFit (after t e)
fit_after t e f = record {
  sound = lasting t e.event e.effects f.sound;
  agree = acts_agree t e f.sound f.agree;
  numbered = all.numbers;
  shown = all_weaken (PageIn (serials (after t e))) (ShowsOpen (after t e)) (after t e).clients
      (λ c page. all_weaken (ShowsIn (serials (after t e))) (λ (s : Shown). IsOpen (after t e) s.window) c.layout.shown
      (λ s is. in_open (after t e) s.window is) page) all.pages;
} where
  before : Holds t
  before = record {
    numbers = f.numbered;
    pages = all_weaken (ShowsOpen t) (PageIn (serials t)) t.clients
        (λ c page. all_weaken (λ (s : Shown). IsOpen t s.window) (ShowsIn (serials t)) c.layout.shown
        (λ s is. open_in t s.window is) page) f.shown;
  }

  all : Holds (after t e)
  all = after_holds t e.event e.effects before

pub fresh_fit : (edition : Edition) (owner : UserId) → AreFit (fresh edition owner)
fresh_fit edition owner = record
    { sound = fresh_sound edition owner; agree = fresh_agrees edition owner; numbered = tt; shown = tt }

pub run_fit : (start : Tables) (entries : List Entry) → AreFit start → AreFit (tables_from start entries)
run_fit start [] f = f
run_fit start (e ∷ past) f = fit_after (tables_from start past) e (run_fit start past f)
