-- The rectangle of the focused region is the definitions', and gives `fit` a window's size or its refusal.
use Rattle.session_commands.proofs.Vocabulary.{◌≡◌, ℕ, zero, suc, ◌-◌, ◌<◌, ◌≤◌, Bool, true, false, List, [], ◌∷◌, ◌++◌}
use Rattle.session_commands.proofs.Vocabulary.{Option, Some, None, Ok, Err, refl, ap, sym, ◌∙◌, subst, arith, inl, inr}
use Rattle.session_commands.proofs.Vocabulary.{append-nil, ◌⊎◌, nat_lt, slice_get, AllByRecursion, option_map}
use Rattle.session_commands.proofs.Vocabulary.{option_and_then, nat_tests, has_room, Size, NoMemory, NoWindow, Regions}
use Rattle.session_commands.proofs.Vocabulary.{refusal_of, WindowsFault, Window, Tables, window_at, with_row, Deed}
use Rattle.session_commands.proofs.Vocabulary.{Answer, on_client, on_window, serial_is, StandFor, Answered}
use Rattle.session_commands.proofs.Vocabulary.{serial, written_to, row_done, row_refused_as, Client, ClientStands}
use Rattle.session_commands.proofs.Vocabulary.{Caller, StepOutput, State, Stands, Answers, caller_in}
use Rattle.std.specs.Prelude.{◌&&◌, nat_le}
use Rattle.std.specs.List.{list_all}
use Rattle.regions.specs.declared.rect.Rect.{Rect}
use Rattle.regions.specs.declared.node.Way.TheVariants.{Below, Right}
use Rattle.regions.specs.declared.layout.RegionFault.TheVariants.{TooSmall}
use Rattle.regions.specs.Shapes.{Shape, region, split, boxes, upper, lower, left, right}
use Rattle.regions.specs.Pages.{box_of, is_roomy}
use Rattle.terminal_model.specs.Writing as terminal
use Rattle.session_model.specs.rows.WindowsFault.TheVariants as fault
use Rattle.session_model.specs.Tables as model
use Rattle.session_model.specs.Deeds.{focused_box, fits, given, writes}
use Rattle.session_model.specs.Comings.{is_client_size, is_window_size}
use Rattle.windows.specs.declared.window.Window as code
use Rattle.windows.specs.Standing.{resized, resized_in}
use Rattle.session_commands.proofs.Answering.{given_some, refused, not_refused, on_giver}
use Rattle.session_commands.proofs.Paging.{Gives}

-- a rectangle of at most this many rows and columns
pub record IsWithin (rows columns : ℕ) (r : Rect) : Type 0 where
  pub rows_fit : r.rows ≤ rows
  pub columns_fit : r.columns ≤ columns

abbrev AreWithin : ℕ → ℕ → List Rect → Type 0
AreWithin rows columns rs = AllByRecursion (IsWithin rows columns) rs

of_append : (rows columns : ℕ) (a b : List Rect) → AreWithin rows columns a → AreWithin rows columns b
    → AreWithin rows columns (a ++ b)
of_append rows columns [] b x y = y
of_append rows columns (r ∷ a) b x y = (x.0, of_append rows columns a b x.1 y)

boxes_within : (s : Shape) (rows columns : ℕ) (r : Rect) → IsWithin rows columns r → AreWithin rows columns (boxes s r)
boxes_within region rows columns r in_it = (in_it, tt)
boxes_within (split Below a b) rows columns r in_it =
    of_append rows columns (boxes a (upper r)) (boxes b (lower r))
    (boxes_within a rows columns (upper r)
    (record { rows_fit = omega (arith, in_it.rows_fit); columns_fit = in_it.columns_fit }))
    (boxes_within b rows columns (lower r)
    (record { rows_fit = omega (arith, in_it.rows_fit); columns_fit = in_it.columns_fit }))
boxes_within (split Right a b) rows columns r in_it =
    of_append rows columns (boxes a (left r)) (boxes b (right r))
    (boxes_within a rows columns (left r)
    (record { rows_fit = in_it.rows_fit; columns_fit = omega (arith, in_it.columns_fit) }))
    (boxes_within b rows columns (right r)
    (record { rows_fit = in_it.rows_fit; columns_fit = omega (arith, in_it.columns_fit) }))

one_of : (P : Rect → Type 0) (rs : List Rect) (i : ℕ) (r : Rect) → slice_get rs i ≡ Some r → AllByRecursion P rs → P r
one_of P [] i r at all = absurd (cc (at))
one_of P (q ∷ rs) zero r at all = subst P (let e : q ≡ r = cc (at) in e) all.0
one_of P (q ∷ rs) (suc i) r at all = one_of P rs i r at all.1

both_true : (a b : Bool) → (a && b) ≡ true → (a ≡ true) × (b ≡ true)
both_true true b is = (refl, is)
both_true false b is = absurd (cc (is))

and_true : (a b : Bool) → a ≡ true → b ≡ true → (a && b) ≡ true
and_true true b is h = h
and_true false b is h = absurd (cc (is))

each_true : (f : Rect → Bool) (rs : List Rect) → list_all f rs ≡ true → AllByRecursion (λ r. f r ≡ true) rs
each_true f [] is = tt
each_true f (r ∷ rs) is = let b = both_true (f r) (list_all f rs) is in (b.0, each_true f rs b.1)

le_is : (m n : ℕ) → nat_le m n ≡ true → m ≤ n
le_is m n is = grind (arith, nat_tests, is)

lt_is : (m n : ℕ) → nat_lt m n ≡ true → m < n
lt_is m n is = grind (arith, nat_tests, is)

le_true : (m n : ℕ) → m ≤ n → nat_le m n ≡ true
le_true m n is = grind (arith, nat_tests, is)

-- a region with two rows beside its caption has the size of a window
window_sized : (m : model.Client) (r : Rect) → is_client_size m.rows m.columns ≡ true
    → has_room m.layout.shape m.rows m.columns ≡ true → focused_box m ≡ Some r → 2 ≤ r.rows - 1
    → is_window_size (r.rows - 1) r.columns 0 ≡ true
window_sized m r sized room at tall =
    let page : Rect = box_of m.rows m.columns in
    let in_page = one_of (IsWithin m.rows m.columns) (boxes m.layout.shape page) m.layout.focus r at
    (boxes_within m.layout.shape m.rows m.columns page (record { rows_fit = omega arith; columns_fit = omega arith }))
    in
    let roomy = one_of (λ q. is_roomy q ≡ true) (boxes m.layout.shape page) m.layout.focus r at
    (each_true is_roomy (boxes m.layout.shape page) room) in
    let broad : 1 < r.columns = lt_is 1 r.columns (both_true (nat_lt 1 r.rows) (nat_lt 1 r.columns) roomy).1 in
    let a = both_true (nat_le 4 m.rows && nat_le m.rows 200 && nat_le 20 m.columns) (nat_le m.columns 300) sized in
    let b = both_true (nat_le 4 m.rows && nat_le m.rows 200) (nat_le 20 m.columns) a.0 in
    let high : m.rows ≤ 200 = le_is m.rows 200 (both_true (nat_le 4 m.rows) (nat_le m.rows 200) b.0).1 in
    let wide : m.columns ≤ 300 = le_is m.columns 300 a.1 in
    let n : ℕ = r.rows - 1 in
    and_true (nat_le 2 n && nat_le n 200 && nat_le 2 r.columns && nat_le r.columns 300) (nat_le 0 2000)
    (and_true (nat_le 2 n && nat_le n 200 && nat_le 2 r.columns) (nat_le r.columns 300)
    (and_true (nat_le 2 n && nat_le n 200) (nat_le 2 r.columns)
    (and_true (nat_le 2 n) (nat_le n 200) (le_true 2 n tall)
    (le_true n 200 (omega (arith, high, in_page.rows_fit)))) (le_true 2 r.columns (omega (arith, broad))))
    (le_true r.columns 300 (omega (arith, wide, in_page.columns_fit)))) refl

lt_true : (m n : ℕ) → m < n → nat_lt m n ≡ true
lt_true m n is = grind (arith, nat_tests, is)

lt_false : (m n : ℕ) → n ≤ m → nat_lt m n ≡ false
lt_false m n is = grind (arith, nat_tests, is)

-- ---- the window that a command acts on

serial_at : (t : Tables) (n s : ℕ) (o : Option Window) → window_at t n ≡ o → option_map serial o ≡ Some s → (w : Window)
    × (window_at t n ≡ Some w) × (window_at t s ≡ Some w)
serial_at t n s None at is = absurd (cc (is))
serial_at t n s (Some w) at is =
    let same : n ≡ s = sym (serial_is serial t.windows n w at) ∙ (let e : w.serial ≡ s = cc (is) in e) in
    (w, at, subst (λ k. window_at t k ≡ Some w) same at)

pub window_there : (t : Tables) (o found : Option ℕ) (s : ℕ)
    → option_map serial (option_and_then (window_at t) o) ≡ found → found ≡ Some s
    → (w : Window) × (option_and_then (window_at t) o ≡ Some w) × (window_at t s ≡ Some w)
window_there t None found s is at = absurd (cc (is, at))
window_there t (Some n) found s is at = serial_at t n s (window_at t n) refl (is ∙ at)

-- ---- what is answered

abbrev pub fit_row : Tables → Caller → Answer
fit_row t k = on_client t (caller_in t k)
    (λ d. on_window t (caller_in t k) (λ v. given (focused_box d) NoWindow (fits t v)))

module _ (t : Tables) (k : Caller) (client : ℕ) (c : Client) (m : model.Client) (by : Gives t k client m)
    (stands : ClientStands m c) (s : ℕ) (w : Window) (here : (caller_in t k).window ≡ Some w)
    (there : window_at t s ≡ Some w)
    (r : Rect) (place : focused_box m ≡ Some r) where
  abbrev rows : ℕ
  rows = r.rows - 1

  abbrev fitted : Deed
  fitted = record (writes t w (terminal.Size rows r.columns)) { effects = Size w.serial rows r.columns ∷ [] }

  fits_is : fit_row t k ≡ fits t w r
  fits_is =
      on_giver t k client m by (λ d. on_window t (caller_in t k) (λ v. given (focused_box d) NoWindow (fits t v)))
      ∙ (given_some (caller_in t k).window NoWindow (λ v. given (focused_box m) NoWindow (fits t v)) w here
      ∙ given_some (focused_box m) NoWindow (fits t w) r place)

  pub too_small : rows < 2 → fit_row t k ≡ Err (Regions TooSmall)
  too_small small = fits_is ∙ refused (nat_lt rows 2) (Regions TooSmall) fitted (lt_true rows 2 small)

  module _ (tall : 2 ≤ rows) where
    sized : resized rows r.columns w ≡ Ok (written_to (terminal.Size rows r.columns) w)
    sized = refl

    -- a region of a page has the size of a window
    pub good : is_window_size rows r.columns 0 ≡ true
    good = window_sized m r stands.sized stands.room place tall

    -- a window of the size is refused for want of memory alone
    pub for_memory : (why : WindowsFault) → (why ≡ fault.NoMemory) ⊎ (resized_in s rows r.columns t.windows ≡ Err why)
        → refusal_of why ≡ NoMemory
    for_memory why (inl full) = ap refusal_of full
    for_memory why (inr other) =
        let refusal = row_refused_as t.windows s (resized rows r.columns) w there why other in
        let never : Ok (written_to (terminal.Size rows r.columns) w) ≡ Err why = sym sized ∙ refusal in
        absurd (cc (never))

    pub fits_there : {A : Type 0} (a : A) (old : State) (new : List code.Window) (before after : StepOutput)
        → Stands t old → Answered (resized_in s rows r.columns t.windows) (Ok a) new
        → after.acts.items ≡ before.acts.items
        → after.effects.items ≡ before.effects.items ++ Size s rows r.columns ∷ []
        → Answers t (fit_row t k) (Ok None) (record old { windows = new }) before after
    fits_there a old new before after st answer acts effects =
        let did = row_done t.windows s (resized rows r.columns) w there a new answer in
        let made : Window = written_to (terminal.Size rows r.columns) w in
        let same : did.0 ≡ made = let e : Ok did.0 ≡ Ok made = sym did.1 ∙ sized in cc (e) in
        let at : w.serial ≡ s = serial_is serial t.windows s w there in (
          fitted,
          fits_is ∙ not_refused (nat_lt rows 2) (Regions TooSmall) fitted (lt_false rows 2 tall),
          refl,
          record {
            stands = record {
              acl = st.acl;
              locks = st.locks;
              multiuser_is = st.multiuser_is;
              windows = subst (λ n. StandFor (with_row serial t.windows n made) new) (sym at)
                  (subst (λ (v : Window). StandFor (with_row serial t.windows s v) new) same did.2);
              clients = st.clients;
              next_window_is = st.next_window_is;
              next_client_is = st.next_client_is;
            };
            acts = acts ∙ sym (append-nil before.acts.items);
            effects = effects ∙ ap (λ n. before.effects.items ++ Size n rows r.columns ∷ []) (sym at);
          },
        )
