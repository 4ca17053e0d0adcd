-- What each command writes to windows, command by command.
use Rattle.session_laws.proofs.Vocabulary.{◌≡◌, ℕ, ◌<◌, ◌≤◌, Bool, true, false, not, List, [], ◌∷◌, ◌++◌, Option, Some}
use Rattle.session_laws.proofs.Vocabulary.{None, Ok, Err, refl, ap, sym, ◌∙◌, subst, map, filter, inl, inr, ⊎_elim}
use Rattle.session_laws.proofs.Vocabulary.{arith, append_assoc, ◌⊎◌, if◌then◌else◌, ◌==◌, length, AllByRecursion}
use Rattle.session_laws.proofs.Vocabulary.{list_any, nat_tests, UserId, named_by, Order, Writing, Effect, Input}
use Rattle.session_laws.proofs.Vocabulary.{Deliver, Say, Size, Gone, Reason, Detached, Killed, Quit, Removed}
use Rattle.session_laws.proofs.Vocabulary.{SingleUser, Refusal, NoWindow, Tables, Window, Client, row_of, with_row}
use Rattle.session_laws.proofs.Vocabulary.{window_at, with_window, Caller, Deed, given, removes, parts, closes, is_of}
use Rattle.session_laws.proofs.Vocabulary.{does, coding_of, says_same, unsaid, SomeOf, Rises, row_goes, other_way}
use Rattle.session_laws.proofs.Vocabulary.{order_writing, is_own, sizes_of, all_weaken, all_filter, members}
use Rattle.session_laws.proofs.Vocabulary.{some_weaken, some_row, itself}
use Rattle.command_lang.specs.declared.command.Command.TheVariants as command
use Rattle.terminal_model.specs.Writing as written
use Rattle.session_model.specs.declared.event.Peer.TheVariants as peer
use Rattle.session_model.specs.Deeds as deeds
use Rattle.session_laws.proofs.Inputs.{append_nil}
use Rattle.session_laws.proofs.DifferentNumbers.{serial_of}
use Rattle.session_laws.proofs.Doing.{Either}
use Rattle.session_laws.proofs.Moving.{serials}
use Rattle.session_laws.proofs.Shapes as shapes

-- ---- how a window's row goes on

abbrev pub GoesOn : (ℕ → List Writing) → Window → Window → Type 0
GoesOn f w v = (v.serial ≡ w.serial) × (v.writing ≡ w.writing ++ f w.serial)

abbrev pub IsNew : Tables → Window → Type 0
IsNew t v = (v.serial ≡ t.next_window) × (v.writing ≡ [])

abbrev pub Row : Tables → (ℕ → List Writing) → Window → Type 0
Row t f v = SomeOf (λ w. GoesOn f w v) t.windows ⊎ IsNew t v

-- each window was there before or is new, and nothing is written to a serial that wasn't given
pub record Wrote (t : Tables) (f : ℕ → List Writing) (ws : List Window) : Type 0 where
  pub rows : AllByRecursion (Row t f) ws
  pub above : (n : ℕ) → t.next_window ≤ n → f n ≡ []

pub alike : (t : Tables) (f g : ℕ → List Writing) (ws : List Window) → ((n : ℕ) → g n ≡ f n) → Wrote t f ws
    → Wrote t g ws
alike t f g ws same all = record {
  rows = all_weaken (Row t f) (Row t g) ws (λ v row. ⊎_elim (λ (old : SomeOf (λ w. GoesOn f w v) t.windows).
      inl (some_weaken (λ w. GoesOn f w v) (λ w. GoesOn g w v) t.windows
      (λ w go. (go.0, go.1 ∙ ap (λ x. w.writing ++ x) (sym (same w.serial)))) old)) (λ new. inr new) row) all.rows;
  above = λ n le. same n ∙ all.above n le;
}

-- ---- windows to which nothing is written

abbrev core : Window → ℕ × List Writing
core w = (w.serial, w.writing)

abbrev pub Kept : List Window → List Window → Type 0
Kept before after = AllByRecursion (λ v. SomeOf (λ w. core w ≡ core v) before) after

pub kept_same : (ws : List Window) → Kept ws ws
kept_same ws = all_weaken (λ v. SomeOf (λ w. w ≡ v) ws) (λ v. SomeOf (λ w. core w ≡ core v) ws) ws
    (λ v some. some_weaken (λ w. w ≡ v) (λ w. core w ≡ core v) ws (λ w e. ap core e) some) (members ws)

pub kept_fewer : (p : Window → Bool) (ws : List Window) → Kept ws (filter p ws)
kept_fewer p ws = all_filter (λ v. SomeOf (λ w. core w ≡ core v) ws) p ws (kept_same ws)

kept_row : (before after : List Window) (n : ℕ) (x : Window) → SomeOf (λ w. core w ≡ core x) before → Kept before after
    → Kept before (with_row serial_of after n x)
kept_row before [] n x some all = tt
kept_row before (r ∷ after) n x some all = on (r.serial == n) (kept_row before after n x some all.1) where
  on : (b : Bool) → Kept before (with_row serial_of after n x)
      → Kept before (if b then x ∷ after else r ∷ with_row serial_of after n x)
  on true rest = (some, all.1)
  on false rest = (all.0, rest)

kept_window : (t : Tables) (w v : Window) → window_at t w.serial ≡ Some w → core v ≡ core w
    → Kept t.windows (with_window t v).windows
kept_window t w v at same =
    kept_row t.windows t.windows v.serial v
    (some_weaken (λ u. u ≡ w) (λ u. core u ≡ core v) t.windows (λ u e. ap core e ∙ sym same)
    (some_row serial_of t.windows w.serial w at)) (kept_same t.windows)

pub kept_wrote : (t : Tables) (f : ℕ → List Writing) (ws : List Window) → ((n : ℕ) → f n ≡ []) → Kept t.windows ws
    → Wrote t f ws
kept_wrote t f ws none kept = record {
  rows = all_weaken (λ v. SomeOf (λ w. core w ≡ core v) t.windows) (Row t f) ws
      (λ v some. inl (some_weaken (λ w. core w ≡ core v) (λ w. GoesOn f w v) t.windows
      (λ w same. (
        sym (ap (λ (p : ℕ × List Writing). p.0) same),
        sym (ap (λ (p : ℕ × List Writing). p.1) same)
            ∙ sym (append_nil w.writing) ∙ ap (λ x. w.writing ++ x) (sym (none w.serial)),
      )) some)) kept;
  above = λ n le. none n;
}

-- ---- one window to which something is written

serial_below : (ws : List Window) (next n : ℕ) (w : Window) → Rises (map serial_of ws) next
    → row_of serial_of ws n ≡ Some w → w.serial < next
serial_below [] next n w rise is = absurd (cc (is))
serial_below (r ∷ ws) next n w rise is = on (r.serial == n) is (serial_below ws next n w rise.2) where
  on : (b : Bool) → (if b then Some r else row_of serial_of ws n) ≡ Some w
      → (row_of serial_of ws n ≡ Some w → w.serial < next) → w.serial < next
  on true is more = let e : r ≡ w = cc (is) in subst (λ (q : Window). q.serial < next) e rise.0
  on false is more = more is

apart : (a n next : ℕ) → a < next → next ≤ n → (a == n) ≡ false
apart a n next lt le = grind (arith, nat_tests, lt, le)

pub row_wrote : (t : Tables) (f : ℕ → List Writing) (w : Window) (what : Writing) → Rises (serials t) t.next_window
    → window_at t w.serial ≡ Some w → f w.serial ≡ what ∷ [] → ((n : ℕ) → (w.serial == n) ≡ false → f n ≡ [])
    → Wrote t f (with_window t (record w { writing = w.writing ++ what ∷ [] })).windows
row_wrote t f w what s at own others = record {
  rows = all_weaken (λ v. SomeOf (λ r. GoesOn f r v) t.windows) (Row t f)
      (with_row serial_of t.windows w.serial (record w { writing = w.writing ++ what ∷ [] })) (λ v some. inl some)
      (row_goes serial_of (GoesOn f) w (record w { writing = w.writing ++ what ∷ [] })
      (refl, ap (λ x. w.writing ++ x) (sym own))
      (λ r off. (
        refl,
        sym (append_nil r.writing)
            ∙ ap (λ x. r.writing ++ x) (sym (others r.serial (other_way r.serial w.serial off))),
      )) t.windows t.next_window s at);
  above = λ n le. others n (apart w.serial n t.next_window (serial_below t.windows t.next_window w.serial w s at) le);
}

-- ---- sizes among effects

pub sizes_append : (xs ys : List Effect) (n : ℕ) → sizes_of (xs ++ ys) n ≡ sizes_of xs n ++ sizes_of ys n
sizes_append [] ys n = refl
sizes_append (Size at rows columns ∷ xs) ys n =
    ap (λ ws. (if at == n then written.Size rows columns ∷ [] else []) ++ ws) (sizes_append xs ys n)
    ∙ sym (append_assoc (if at == n then written.Size rows columns ∷ [] else []) (sizes_of xs n) (sizes_of ys n))
sizes_append (a ∷ xs) ys n = sizes_append xs ys n

-- an effect that is dropped because it was said before is no size
sizes_one : (e : Effect) (said es : List Effect) (n : ℕ) → sizes_of (unsaid said es) n ≡ sizes_of es n
    → sizes_of (unsaid said (e ∷ es)) n ≡ sizes_of (e ∷ es) n
sizes_one (Say to bytes) said es n rest = on (list_any (says_same (Say to bytes)) said) where
  on : (b : Bool) → sizes_of (if not b then Say to bytes ∷ unsaid said es else unsaid said es) n ≡ sizes_of es n
  on true = rest
  on false = rest
sizes_one (Size at rows columns) said es n rest = on (list_any (says_same (Size at rows columns)) said) (never said)
  where
    never : (said : List Effect) → list_any (says_same (Size at rows columns)) said ≡ false
    never [] = refl
    never (f ∷ said) = never said

    on : (b : Bool) → b ≡ false
        → sizes_of (if not b then Size at rows columns ∷ unsaid said es else unsaid said es) n ≡ sizes_of
        (Size at rows columns ∷ es) n
    on true is = absurd (cc (is))
    on false is = ap (λ ws. (if at == n then written.Size rows columns ∷ [] else []) ++ ws) rest
sizes_one (Input at bytes) said es n rest = on (list_any (says_same (Input at bytes)) said) where
  on : (b : Bool) → sizes_of (if not b then Input at bytes ∷ unsaid said es else unsaid said es) n ≡ sizes_of es n
  on true = rest
  on false = rest
sizes_one (Deliver at bytes) said es n rest = on (list_any (says_same (Deliver at bytes)) said) where
  on : (b : Bool) → sizes_of (if not b then Deliver at bytes ∷ unsaid said es else unsaid said es) n ≡ sizes_of es n
  on true = rest
  on false = rest
sizes_one (Gone (peer.Window at) why) said es n rest = on (list_any (says_same (Gone (peer.Window at) why)) said) where
  on : (b : Bool) → sizes_of (if not b then Gone (peer.Window at) why ∷ unsaid said es else unsaid said es) n
      ≡ sizes_of es n
  on true = rest
  on false = rest
sizes_one (Gone (peer.Client at) why) said es n rest = on (list_any (says_same (Gone (peer.Client at) why)) said) where
  on : (b : Bool) → sizes_of (if not b then Gone (peer.Client at) why ∷ unsaid said es else unsaid said es) n
      ≡ sizes_of es n
  on true = rest
  on false = rest

pub sizes_unsaid : (said es : List Effect) (n : ℕ) → sizes_of (unsaid said es) n ≡ sizes_of es n
sizes_unsaid said [] n = refl
sizes_unsaid said (e ∷ es) n = sizes_one e said es n (sizes_unsaid said es n)

pub sizes_gone : (why : Reason) (cs : List Client) (n : ℕ)
    → sizes_of (map (λ (c : Client). Gone (peer.Client c.serial) why) cs) n ≡ []
sizes_gone why [] n = refl
sizes_gone why (c ∷ cs) n = sizes_gone why cs n

pub sizes_closed : (why : Reason) (ws : List Window) (n : ℕ)
    → sizes_of (map (λ (w : Window). Gone (peer.Window w.serial) why) ws) n ≡ []
sizes_closed why [] n = refl
sizes_closed why (w ∷ ws) n = sizes_closed why ws n

sizes_said : (bytes : List ℕ) (cs : List Client) (n : ℕ) → sizes_of (map (λ (c : Client). Say c.serial bytes) cs) n ≡ []
sizes_said bytes [] n = refl
sizes_said bytes (c ∷ cs) n = sizes_said bytes cs n

pub sizes_input : (at : ℕ) (bytes : List ℕ) (b : Bool) (n : ℕ) → sizes_of (if b then [] else Input at bytes ∷ []) n ≡ []
sizes_input at bytes true n = refl
sizes_input at bytes false n = refl

-- ---- the kinds

abbrev pub row_writing : Caller → Order → ℕ → List Writing
row_writing k c n = if is_own k.window n then order_writing c else []

pub record HasWrote (t : Tables) (k : Caller) (c : Order) (d : Deed) : Type 0 where
  pub all : Wrote t (λ n. row_writing k c n ++ sizes_of d.effects n) d.tables.windows

pub none_if : {A : Type 0} (b : Bool) → (if b then (let none : List A = [] in none) else []) ≡ []
none_if true = refl
none_if false = refl

-- a command that writes nothing
quiet : (t : Tables) (k : Caller) (c : Order) (d : Deed) → order_writing c ≡ [] → ((n : ℕ) → sizes_of d.effects n ≡ [])
    → Kept t.windows d.tables.windows → HasWrote t k c d
quiet t k c d none sizes kept = record {
  all = kept_wrote t (λ n. row_writing k c n ++ sizes_of d.effects n) d.tables.windows
      (λ n. ap (λ ws. (if is_own k.window n then ws else []) ++ sizes_of d.effects n) none
      ∙ ap (λ ws. ws ++ sizes_of d.effects n) (none_if (is_own k.window n)) ∙ sizes n) kept;
}

silent : (t : Tables) (k : Caller) (c : Order) (d : Deed) → order_writing c ≡ [] → d.effects ≡ []
    → d.tables.windows ≡ t.windows → HasWrote t k c d
silent t k c d none effects windows = quiet t k c d none (λ n. ap (λ es. sizes_of es n) effects)
    (subst (Kept t.windows) (sym windows) (kept_same t.windows))

removal_wrote : (t : Tables) (k : Caller) (c : Order) (o : Option UserId) → order_writing c ≡ []
    → HasWrote t k c (removes o t)
removal_wrote t k c None none = silent t k c _ none refl refl
removal_wrote t k c (Some u) none = quiet t k c _ none (sizes_gone Removed (filter (is_of u) t.clients))
    (kept_same t.windows)

module _ (t : Tables) (k : Caller) (s : Rises (serials t) t.next_window)
    (row : (w : Window) → k.window ≡ Some w → window_at t w.serial ≡ Some w) where
  own_here : (w : Window) → k.window ≡ Some w → is_own k.window w.serial ≡ true
  own_here w is = ap (λ o. is_own o w.serial) is ∙ itself w.serial

  own_off : (w : Window) (n : ℕ) → k.window ≡ Some w → (w.serial == n) ≡ false → is_own k.window n ≡ false
  own_off w n is off = ap (λ o. is_own o n) is ∙ off

  -- a command that writes this to its window
  writes : (c : Order) (w : Window) (what : Writing) → k.window ≡ Some w → order_writing c ≡ what ∷ []
      → HasWrote t k c (deeds.writes t w what)
  writes c w what is one = record {
    all = row_wrote t (λ n. row_writing k c n ++ []) w what s (row w is)
        (append_nil (row_writing k c w.serial) ∙ ap (λ (b : Bool). if b then order_writing c else []) (own_here w is)
        ∙ one)
        (λ n off. append_nil (row_writing k c n)
        ∙ ap (λ (b : Bool). if b then order_writing c else []) (own_off w n is off));
  }

  -- a window that gets another number or title
  renamed : (c : Order) (w v : Window) → k.window ≡ Some w → order_writing c ≡ [] → core v ≡ core w
      → HasWrote t k c (deeds.changing (with_window t v))
  renamed c w v is none same = quiet t k c (deeds.changing (with_window t v)) none (λ n. refl)
      (kept_window t w v (row w is) same)

  sized : (c : Order) (w : Window) (rows columns : ℕ) → order_writing c ≡ [] → k.window ≡ Some w
      → HasWrote t k c
      (record (deeds.writes t w (written.Size rows columns)) { effects = Size w.serial rows columns ∷ [] })
  sized c w rows columns none is = record {
    all = row_wrote t (λ n. row_writing k c n ++ sizes_of (Size w.serial rows columns ∷ []) n) w
        (written.Size rows columns) s (row w is)
        (ap (λ ws. ws ++ sizes_of (Size w.serial rows columns ∷ []) w.serial) (none_written c none w.serial)
        ∙ ap (λ (b : Bool). (if b then written.Size rows columns ∷ [] else []) ++ []) (itself w.serial))
        (λ n off. ap (λ ws. ws ++ sizes_of (Size w.serial rows columns ∷ []) n) (none_written c none n)
        ∙ ap (λ (b : Bool). (if b then written.Size rows columns ∷ [] else []) ++ []) off);
  } where
    none_written : (c : Order) → order_writing c ≡ [] → (n : ℕ) → row_writing k c n ≡ []
    none_written c none n = ap (λ ws. if is_own k.window n then ws else []) none ∙ none_if (is_own k.window n)

  quits : (c : Order) → order_writing c ≡ []
      → HasWrote t k c (deeds.both (closes (λ w. true) Quit t) (parts (λ d. true) Quit))
  quits c none = quiet t k c _ none
      (λ n. sizes_append (closes (λ w. true) Quit t).effects
      (parts (λ d. true) Quit (closes (λ w. true) Quit t).tables).effects n
      ∙ ap (λ ws. ws ++ sizes_of (parts (λ d. true) Quit (closes (λ w. true) Quit t).tables).effects n)
      (sizes_closed Quit (filter (λ (w : Window). true) t.windows) n)
      ∙ sizes_gone Quit (filter (λ (d : Client). true) (closes (λ w. true) Quit t).tables.clients) n)
      (kept_fewer (λ (w : Window). not true) t.windows)

  deed_wrote : (c : Order) (d : Deed) → shapes.Shape t k c d → HasWrote t k c d
  deed_wrote c d (shapes.lists bytes none tells) = silent t k c _ none refl refl
  deed_wrote c d (shapes.acts all none acted) = silent t k c _ none refl refl
  deed_wrote c d (shapes.enters_page x l of at shows) = silent t k c _ of.0 refl refl
  deed_wrote c d (shapes.keeps_page x l of at shows same) = silent t k c _ of.0 refl refl
  deed_wrote c d (shapes.writes_to w what one at) = writes c w what at one
  deed_wrote c d (shapes.opened is) = silent t k c _ (ap order_writing is) refl refl
  deed_wrote c d (shapes.shut is) = quiet t k c _ (ap order_writing is)
      (sizes_gone SingleUser (filter (λ (x : Client). not (is_of t.owner x)) t.clients)) (kept_same t.windows)
  deed_wrote c d (shapes.told bytes is) = quiet t k c _ (ap order_writing is) (sizes_said _ t.clients)
      (kept_same t.windows)
  deed_wrote c d (shapes.removed word is clear) = removal_wrote t k c (named_by word) (ap order_writing is)
  deed_wrote c d (shapes.fitted w rows columns is at) = sized c w rows columns (ap order_writing is) at
  deed_wrote c d (shapes.titled w bytes is at) = renamed c w (record w { title = bytes }) at (ap order_writing is) refl
  deed_wrote c d (shapes.numbered w n is at free) = renamed c w (record w { number = n }) at (ap order_writing is) refl
  deed_wrote c d (shapes.typed w bytes is at) = quiet t k c _ (ap order_writing is)
      (sizes_input w.serial bytes (length bytes == 0)) (kept_same t.windows)
  deed_wrote c d (shapes.detached x is at) = quiet t k c _ (ap order_writing is)
      (sizes_gone Detached (filter (λ (y : Client). y.serial == x.serial) t.clients)) (kept_same t.windows)
  deed_wrote c d (shapes.killed w is at) =
      quiet t k c _ (ap order_writing is)
      (sizes_closed Killed (filter (λ (v : Window). v.serial == w.serial) t.windows))
      (kept_fewer (λ (v : Window). not (v.serial == w.serial)) t.windows)
  deed_wrote c d (shapes.quits is) = quits c (ap order_writing is)

  pub wrote : (c : Order) → Either (HasWrote t k c) (does t k c)
  wrote c = shapes.by_shape (HasWrote t k c) t k c (deed_wrote c)

-- a refused command writes nothing
window_refused : (o : Option Window) (r : Refusal) (f : Window → Deed) (ws : List Writing) (n : ℕ)
    → given o NoWindow (λ w. Ok (f w)) ≡ Err r → (if is_own o n then ws else []) ≡ []
unfolding given
window_refused None r f ws n is = refl
window_refused (Some w) r f ws n is = absurd (cc (is))

pub refused_writes : (t : Tables) (k : Caller) (c : Order) (r : Refusal) (n : ℕ) → does t k c ≡ Err r
    → row_writing k c n ≡ []
refused_writes t k command.Clear r n is = window_refused k.window r (λ w. deeds.writes t w written.Clear)
    (written.Clear ∷ []) n is
refused_writes t k command.Reset r n is = window_refused k.window r (λ w. deeds.writes t w written.Reset)
    (written.Reset ∷ []) n is
refused_writes t k (command.Encoding coding) r n is = window_refused k.window r
    (λ w. deeds.writes t w (written.Encoding (coding_of coding))) (written.Encoding (coding_of coding) ∷ []) n is
refused_writes t k c r n is = none_if (is_own k.window n)
