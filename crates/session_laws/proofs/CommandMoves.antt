-- Each command moves windows and clients as `Moves` says.
use Rattle.session_laws.proofs.Vocabulary.{◌≡◌, ℕ, ◌+◌, ◌≤◌, Bool, true, false, not, List, [], ◌∷◌, ◌++◌, Option, Some}
use Rattle.session_laws.proofs.Vocabulary.{None, refl, ap, sym, ◌∙◌, subst, map, filter, length, arith, suc}
use Rattle.session_laws.proofs.Vocabulary.{if◌then◌else◌, ◌==◌, option_map_or, UserId, Act, same_user, named_by, Order}
use Rattle.session_laws.proofs.Vocabulary.{Arrangement, Effect, Input, Say, Size, Gone, Reason, Detached, Killed}
use Rattle.session_laws.proofs.Vocabulary.{Removed, SingleUser, Quit, Text, Tables, Window, Client, window_at}
use Rattle.session_laws.proofs.Vocabulary.{client_at, with_window, with_client, with_layout, focused, with_number}
use Rattle.session_laws.proofs.Vocabulary.{Caller, Deed, changing, acting, removes, is_of, parts, closes, both}
use Rattle.session_laws.proofs.Vocabulary.{without_window, without_windows, enters, arranges, entering, input_of}
use Rattle.session_laws.proofs.Vocabulary.{hearing, tells, does, caller_client, is_taken, NumbersDiffer, equal}
use Rattle.session_laws.proofs.Vocabulary.{filter_all, row_serial}
use Rattle.acl.specs.declared.act.Act.TheVariants as act
use Rattle.terminal_model.specs.Writing as written
use Rattle.session_model.specs.declared.event.Peer.TheVariants as peer
use Rattle.session_model.specs.Deeds as deeds
use Rattle.session_laws.proofs.Unread.{caller_row}
use Rattle.session_laws.proofs.Inputs.{append_nil}
use Rattle.session_laws.proofs.DifferentNumbers.{serial_of, IsFree, with_numbers, fewer_numbers, own_number}
use Rattle.session_laws.proofs.Doing.{Either}
use Rattle.session_laws.proofs.Moving.{AllAside, DeedMoves, id_of, ids, serials, closed, parted, filter_map, stays}
use Rattle.session_laws.proofs.Moving.{acts_only, lists_only, map_with_row, filter_none, right_aside}
use Rattle.session_laws.proofs.Shapes as shapes
use Rattle.session_laws.proofs.Shapes.{acted_rights}

pub length_map : {A B : Type 0} (f : A → B) (xs : List A) → length (map f xs) ≡ length xs
length_map f [] = refl
length_map f (x ∷ xs) = ap suc (length_map f xs)

pub length_filter : {A : Type 0} (p : A → Bool) (xs : List A) → length (filter p xs) ≤ length xs
length_filter p [] = omega arith
length_filter p (x ∷ xs) = on (p x) (length_filter p xs) where
  on : (b : Bool) → length (filter p xs) ≤ length xs
      → length (if b then x ∷ filter p xs else filter p xs) ≤ length (x ∷ xs)
  on true le = omega (arith, le)
  on false le = omega (arith, le)

length_gone : {A B : Type 0} (f : A → B) (p : A → Bool) (xs : List A) → length (map f (filter p xs)) ≤ length xs
length_gone f p xs = let same : length (map f (filter p xs)) ≡ length (filter p xs) = length_map f (filter p xs) in let
    le : length (filter p xs) ≤ length xs = length_filter p xs in omega (arith, same, le)

map_map : {A B : Type 0} (f : A → B) (g : A → A) (xs : List A) → ((x : A) → f (g x) ≡ f x) → map f (map g xs) ≡ map f xs
map_map f g [] same = refl
map_map f g (x ∷ xs) same = ap (λ y. y ∷ map f (map g xs)) (same x) ∙ ap (λ ys. f x ∷ ys) (map_map f g xs same)

pub length_append : {A : Type 0} (xs ys : List A) → length (xs ++ ys) ≡ length xs + length ys
length_append [] ys = omega arith
length_append (x ∷ xs) ys = let e : length (xs ++ ys) ≡ length xs + length ys = length_append xs ys in omega (arith, e)

-- ---- pages

pub client_ids : (t : Tables) (c d : Client) → client_at t c.serial ≡ Some c → id_of d ≡ id_of c
    → map id_of (with_client t d).clients ≡ map id_of t.clients
client_ids t c d at same =
    let serial : d.serial ≡ c.serial = ap (λ p. p.0) same in
    map_with_row id_of (λ (x : Client). x.serial) t.clients d.serial d
    (λ r is. same
    ∙ ap id_of
    (let e : Some c ≡ Some r = sym at ∙ ap (client_at t) (sym serial) ∙ is in let f : c ≡ r = cc (e) in f))

entering_aside : (user : UserId) (o : Option ℕ) → AllAside (entering user o)
entering_aside user None = tt
entering_aside user (Some w) = (refl, tt)

page_moves : (t : Tables) (c d : Client) (acts : List Act) → client_at t c.serial ≡ Some c → id_of d ≡ id_of c
    → AllAside acts → DeedMoves t (acting (with_client t d) acts)
page_moves t c d acts at same aside = stays t (with_client t d) acts 0 aside refl (client_ids t c d at same) refl refl
    (omega arith) (λ differ numbers. numbers)

arranged : (t : Tables) (k : Caller) (c : Client) (l : Arrangement) → caller_client t k ≡ Some c
    → DeedMoves t (arranges t c l)
arranged t k c l is = page_moves t c (with_layout l c) [] (caller_row t k.client c is) refl tt

entered : (t : Tables) (k : Caller) (c : Client) (l : Arrangement) → caller_client t k ≡ Some c
    → DeedMoves t (enters t c l)
entered t k c l is = page_moves t c (with_layout l c) (entering c.user (focused (with_layout l c)))
    (caller_row t k.client c is) refl (entering_aside c.user (focused (with_layout l c)))

-- ---- windows

pub window_serials : (t : Tables) (v : Window) → map serial_of (with_window t v).windows ≡ map serial_of t.windows
window_serials t v = map_with_row serial_of serial_of t.windows v.serial v
    (λ r is. sym (row_serial serial_of t.windows v.serial r is))

window_moves : (t : Tables) (v : Window) (effects : List Effect) → length effects ≤ 1
    → (NumbersDiffer t.windows → IsFree t.windows v.serial v.number)
    → DeedMoves t (record (changing (with_window t v)) { effects = effects })
window_moves t v effects few free =
    stays t (with_window t v) [] (length effects) tt (window_serials t v) refl refl refl (omega (arith, few))
    (λ differ numbers. with_numbers v.serial v refl t.windows differ numbers (free numbers))

-- a window that keeps its number
pub same_window : (t : Tables) (w v : Window) (effects : List Effect) → length effects ≤ 1
    → window_at t w.serial ≡ Some w → v.serial ≡ w.serial → v.number ≡ w.number
    → DeedMoves t (record (changing (with_window t v)) { effects = effects })
same_window t w v effects few at serial number =
    window_moves t v effects few
    (λ numbers x is. own_number t.windows w at numbers x (ap (with_number t.windows) (sym number) ∙ is)
    ∙ sym serial)

other_free : (t : Tables) (w : Window) (n : ℕ) → is_taken t w n ≡ false → IsFree t.windows w.serial n
other_free t w n free v is = on (v.serial == w.serial) refl
    (sym (ap (λ o. option_map_or (λ (x : Window). not (x.serial == w.serial)) o false) is) ∙ free) where
      on : (b : Bool) → (v.serial == w.serial) ≡ b → not b ≡ false → v.serial ≡ w.serial
      on true at is = equal v.serial w.serial at
      on false at is = absurd (cc (is))

-- ---- who goes

abbrev gone_by : (ℕ × UserId → Bool) → Client → Bool
gone_by goes c = goes (id_of c)

parted_acts : (p : Client → Bool) (cs : List Client)
    → map (λ (c : Client). act.Parted c.serial) (filter p cs) ≡ parted (map id_of (filter p cs))
parted_acts p cs = sym (by_ids (filter p cs)) where
  by_ids : (cs : List Client) → parted (map id_of cs) ≡ map (λ (c : Client). act.Parted c.serial) cs
  by_ids [] = refl
  by_ids (c ∷ cs) = ap (λ acts. act.Parted c.serial ∷ acts) (by_ids cs)

closed_acts : (p : Window → Bool) (ws : List Window)
    → map (λ (w : Window). act.Closed w.serial) (filter p ws) ≡ closed (map serial_of (filter p ws))
closed_acts p ws = sym (by_serials (filter p ws)) where
  by_serials : (ws : List Window) → closed (map serial_of ws) ≡ map (λ (w : Window). act.Closed w.serial) ws
  by_serials [] = refl
  by_serials (w ∷ ws) = ap (λ acts. act.Closed w.serial ∷ acts) (by_serials ws)

pub parts_moves : (t : Tables) (goes : ℕ × UserId → Bool) (why : Reason) (more : List Act) → AllAside more
    → let d : Deed = parts (gone_by goes) why t in DeedMoves t (record d { acts = d.acts ++ more })
parts_moves t goes why more aside = record {
  closing = λ n. false;
  parting = goes;
  others = more;
  aside = aside;
  acts_are = ap (λ acts. acts ++ more)
      (parted_acts (gone_by goes) t.clients ∙ ap parted (filter_map id_of goes t.clients))
      ∙ sym (ap (λ ns. closed ns ++ (parted (filter goes (ids t)) ++ more)) (filter_none (serials t)));
  windows = sym (filter_all (serials t));
  clients = filter_map id_of (λ p. not (goes p)) t.clients;
  next_window = refl;
  next_client = refl;
  few = let le : length (map (λ (c : Client). Gone (peer.Client c.serial) why) (filter (gone_by goes) t.clients))
      ≤ length
      t.clients = length_gone _ (gone_by goes) t.clients in omega (arith, le);
  numbers = λ differ numbers. numbers;
}

pub only_parts : (t : Tables) (goes : ℕ × UserId → Bool) (why : Reason) → DeedMoves t (parts (gone_by goes) why t)
only_parts t goes why = subst (λ acts. DeedMoves t (record (parts (gone_by goes) why t) { acts = acts }))
    (append_nil (parts (gone_by goes) why t).acts) (parts_moves t goes why [] tt)

without_ids : (ws : List Window) (cs : List Client) → map id_of (without_windows ws cs) ≡ map id_of cs
without_ids [] cs = refl
without_ids (w ∷ ws) cs = without_ids ws (map (without_window w.serial) cs)
    ∙ map_map id_of (without_window w.serial) cs (λ c. refl)

pub closes_moves : (t : Tables) (goes : ℕ → Bool) (why : Reason) → DeedMoves t (closes (λ w. goes w.serial) why t)
closes_moves t goes why = record {
  closing = goes;
  parting = λ p. false;
  others = [];
  aside = tt;
  acts_are = closed_acts (λ w. goes w.serial) t.windows ∙ ap closed (filter_map serial_of goes t.windows)
      ∙ sym
      (ap (λ ps. closed (filter goes (serials t)) ++ (parted ps ++ [])) (filter_none (ids t))
      ∙ append_nil (closed (filter goes (serials t))));
  windows = filter_map serial_of (λ n. not (goes n)) t.windows;
  clients = without_ids (filter (λ (w : Window). goes w.serial) t.windows) t.clients ∙ sym (filter_all (ids t));
  next_window = refl;
  next_client = refl;
  few = let le : length
      (map (λ (w : Window). Gone (peer.Window w.serial) why) (filter (λ (w : Window). goes w.serial) t.windows))
      ≤ length
      t.windows = length_gone _ (λ (w : Window). goes w.serial) t.windows in omega (arith, le);
  numbers = λ differ numbers. fewer_numbers (λ w. not (goes w.serial)) t.windows numbers;
}

removal_moves : (t : Tables) (o : Option UserId) → DeedMoves t (removes o t)
removal_moves t None = stays t t [] 0 tt refl refl refl refl (omega arith) (λ differ numbers. numbers)
removal_moves t (Some u) = parts_moves t (λ p. same_user p.1 u) Removed (act.Gone u ∷ []) (refl, tt)

pub length_ids : (xs ys : List Client) → map id_of xs ≡ map id_of ys → length xs ≡ length ys
length_ids xs ys same = sym (length_map id_of xs) ∙ ap length same ∙ length_map id_of ys

quit_moves : (t : Tables) → DeedMoves t (both (closes (λ w. true) Quit t) (parts (λ c. true) Quit))
quit_moves t =
    let cs : List Client = without_windows (filter (λ (w : Window). true) t.windows) t.clients in
    let same_ids : map id_of cs ≡ ids t = without_ids (filter (λ (w : Window). true) t.windows) t.clients in
    let ws : List Effect = map (λ (w : Window). Gone (peer.Window w.serial) Quit) (filter
    (λ (w : Window). true) t.windows) in
    let gone : List Effect = map (λ (c : Client). Gone (peer.Client c.serial) Quit) (filter
    (λ (c : Client). true) cs) in
    record {
      closing = λ n. true;
      parting = λ p. true;
      others = [];
      aside = tt;
      acts_are = ap (λ acts. acts ++ map (λ (c : Client). act.Parted c.serial) (filter (λ (c : Client). true) cs))
          (closed_acts (λ w. true) t.windows ∙ ap closed (filter_map serial_of (λ n. true) t.windows))
          ∙ ap (λ acts. closed (filter (λ n. true) (serials t)) ++ acts)
          (parted_acts (λ c. true) cs ∙ ap parted (filter_map id_of (λ p. true) cs ∙ ap (filter (λ p. true)) same_ids)
          ∙ sym (append_nil (parted (filter (λ p. true) (ids t)))));
      windows = filter_map serial_of (λ n. not true) t.windows;
      clients = filter_map id_of (λ p. not true) cs ∙ ap (filter (λ p. not true)) same_ids;
      next_window = refl;
      next_client = refl;
      few =
          let one : length ws ≤ length t.windows = length_gone _ (λ (w : Window). true) t.windows in
          let two : length gone ≤ length cs = length_gone _ (λ (c : Client). true) cs in
          let same : length cs ≡ length t.clients = length_ids cs t.clients same_ids in
          let sum : length (ws ++ gone) ≡ length ws + length gone = length_append ws gone in
          omega (arith, one, two, same, sum);
      numbers = λ differ numbers. fewer_numbers (λ w. not true) t.windows numbers;
    }

told_moves : (t : Tables) (bytes : List ℕ) → DeedMoves t (tells bytes t)
told_moves t bytes =
    stays t (tells bytes t).tables [] (length (tells bytes t).effects) tt refl
    (map_map id_of (hearing (Text bytes)) t.clients (λ c. refl)) refl refl
    (let same : length (map (λ (c : Client). Say c.serial bytes) t.clients) ≡ length t.clients = length_map _ t.clients
    in omega (arith, same)) (λ differ numbers. numbers)

-- ---- the kinds

pub nothing_moves : (t : Tables) (effects : List Effect) → length effects ≤ 1
    → DeedMoves t (record (changing t) { effects = effects })
nothing_moves t effects few = stays t t [] (length effects) tt refl refl refl refl (omega (arith, few))
    (λ differ numbers. numbers)

pub input_few : (at : ℕ) (bytes : List ℕ) (b : Bool) → length (if b then [] else Input at bytes ∷ []) ≤ 1
input_few at bytes true = omega arith
input_few at bytes false = omega arith

written_moves : (t : Tables) (w : Window) (what : written.Writing) → window_at t w.serial ≡ Some w
    → DeedMoves t (deeds.writes t w what)
written_moves t w what at = same_window t w (record w { writing = w.writing ++ what ∷ [] }) [] (omega arith) at refl
    refl

-- the clients that go when the session becomes single-user
single_user : (t : Tables)
    → DeedMoves t (parts (λ c. not (is_of t.owner c)) SingleUser (record t { is_multiuser = false }))
single_user t = let all = only_parts t (λ p. not (same_user p.1 t.owner)) SingleUser in record {
  closing = all.closing;
  parting = all.parting;
  others = all.others;
  aside = all.aside;
  acts_are = all.acts_are;
  windows = all.windows;
  clients = all.clients;
  next_window = refl;
  next_client = refl;
  few = all.few;
  numbers = λ differ numbers. numbers;
}

module _ (t : Tables) (k : Caller) (row : (w : Window) → k.window ≡ Some w → window_at t w.serial ≡ Some w) where
  deed_moves : (c : Order) (d : Deed) → shapes.Shape t k c d → DeedMoves t d
  deed_moves c d (shapes.lists bytes none tells) = lists_only t bytes
  deed_moves c d (shapes.acts all none acted) = acts_only t all (right_aside all (acted_rights t k c all acted))
  deed_moves c d (shapes.enters_page x l of at shows) = entered t k x l at
  deed_moves c d (shapes.keeps_page x l of at shows same) = arranged t k x l at
  deed_moves c d (shapes.writes_to w what one at) = written_moves t w what (row w at)
  deed_moves c d (shapes.opened is) = stays t (record t { is_multiuser = true }) [] 0 tt refl refl refl refl
      (omega arith) (λ differ numbers. numbers)
  deed_moves c d (shapes.shut is) = single_user t
  deed_moves c d (shapes.told bytes is) = told_moves t _
  deed_moves c d (shapes.removed word is clear) = removal_moves t (named_by word)
  deed_moves c d (shapes.fitted w rows columns is at) =
      same_window t w (record w { writing = w.writing ++ written.Size rows columns ∷ [] })
      (Size w.serial rows columns ∷ []) (omega arith) (row w at) refl refl
  deed_moves c d (shapes.titled w bytes is at) = same_window t w (record w { title = bytes }) [] (omega arith)
      (row w at) refl refl
  deed_moves c d (shapes.numbered w n is at free) = window_moves t (record w { number = n }) [] (omega arith)
      (λ numbers. other_free t w n free)
  deed_moves c d (shapes.typed w bytes is at) = nothing_moves t (input_of w.serial bytes)
      (input_few w.serial bytes (length bytes == 0))
  deed_moves c d (shapes.detached x is at) = only_parts t (λ p. p.0 == x.serial) Detached
  deed_moves c d (shapes.killed w is at) = closes_moves t (λ n. n == w.serial) Killed
  deed_moves c d (shapes.quits is) = quit_moves t

  pub moves : (c : Order) → Either (DeedMoves t) (does t k c)
  moves c = shapes.by_shape (DeedMoves t) t k c (deed_moves c)
