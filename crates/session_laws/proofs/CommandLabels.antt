-- Commands leave the numbers and titles of all windows but the one that they act on.
use Rattle.session_laws.proofs.Vocabulary.{◌≡◌, ℕ, Bool, true, false, not, List, [], ◌∷◌, ◌++◌, Option, Some, None}
use Rattle.session_laws.proofs.Vocabulary.{refl, ap, sym, ◌∙◌, subst, filter, inl, inr, if◌then◌else◌, ◌==◌, ◌⊎◌}
use Rattle.session_laws.proofs.Vocabulary.{option_map, UserId, named_by, Order, name_of, Tables, Window, row_of}
use Rattle.session_laws.proofs.Vocabulary.{with_row, window_at, with_window, Caller, Deed, removes, does, IsOn, equal}
use Rattle.session_laws.proofs.Vocabulary.{names_its_window}
use Rattle.acl.specs.declared.command_name.CommandName.TheVariants as name
use Rattle.terminal_model.specs.Writing as written
use Rattle.session_model.specs.Deeds as deeds
use Rattle.session_laws.proofs.Doing.{Either}
use Rattle.session_laws.proofs.Shapes as shapes

abbrev pub serial : Window → ℕ
serial w = w.serial

abbrev pub label : Window → ℕ × List ℕ
label w = (w.number, w.title)

abbrev pub label_in : List Window → ℕ → Option (ℕ × List ℕ)
label_in ws window = option_map label (row_of serial ws window)

-- ---- rows

changed : (ws : List Window) (n : ℕ) (y : Window) (at : ℕ) → y.serial ≡ n
    → ((r : Window) → row_of serial ws n ≡ Some r → label y ≡ label r)
    → label_in (with_row serial ws n y) at ≡ label_in ws at
changed [] n y at is same = refl
changed (r ∷ ws) n y at is same = on (r.serial == n) refl same (changed ws n y at is) where
  found : (b : Bool) → label y ≡ label r
      → option_map label (if b then Some y else row_of serial ws at) ≡ option_map label
      (if b then Some r else row_of serial ws at)
  found true alike = ap Some alike
  found false alike = refl

  later : (b : Bool) → label_in (with_row serial ws n y) at ≡ label_in ws at
      → option_map label (if b then Some r else row_of serial (with_row serial ws n y) at) ≡ option_map label
      (if b then Some r else row_of serial ws at)
  later true rest = refl
  later false rest = rest

  on : (b : Bool) → (r.serial == n) ≡ b
      → ((q : Window) → (if b then Some r else row_of serial ws n) ≡ Some q → label y ≡ label q)
      →
      (((q : Window) → row_of serial ws n ≡ Some q → label y ≡ label q)
      → label_in (with_row serial ws n y) at ≡ label_in ws at)
      → label_in (if b then y ∷ ws else r ∷ with_row serial ws n y) at ≡ label_in (r ∷ ws) at
  on true here same more =
      ap (λ m. option_map label (if m == at then Some y else row_of serial ws at)) (is ∙ sym (equal r.serial n here))
      ∙ found (r.serial == at) (same r refl)
  on false here same more = later (r.serial == at) (more same)

elsewhere : (ws : List Window) (n : ℕ) (y : Window) (at : ℕ) → y.serial ≡ n → (n == at) ≡ false
    → label_in (with_row serial ws n y) at ≡ label_in ws at
elsewhere [] n y at is off = refl
elsewhere (r ∷ ws) n y at is off = on (r.serial == n) refl (elsewhere ws n y at is off) where
  skip : (m : ℕ) → m ≡ n → (x : Window) (o : Option Window)
      → option_map label (if m == at then Some x else o) ≡ option_map label o
  skip m same x o = ap (λ (b : Bool). option_map label (if b then Some x else o)) (ap (λ k. k == at) same ∙ off)

  later : (b : Bool) → label_in (with_row serial ws n y) at ≡ label_in ws at
      → option_map label (if b then Some r else row_of serial (with_row serial ws n y) at) ≡ option_map label
      (if b then Some r else row_of serial ws at)
  later true rest = refl
  later false rest = rest

  on : (b : Bool) → (r.serial == n) ≡ b → label_in (with_row serial ws n y) at ≡ label_in ws at
      → label_in (if b then y ∷ ws else r ∷ with_row serial ws n y) at ≡ label_in (r ∷ ws) at
  on true here rest = skip y.serial is y (row_of serial ws at)
      ∙ sym (skip r.serial (equal r.serial n here) r (row_of serial ws at))
  on false here rest = later (r.serial == at) rest

pub closed : (ws : List Window) (n at : ℕ) → (n == at) ≡ false
    → label_in (filter (λ (v : Window). not (v.serial == n)) ws) at ≡ label_in ws at
closed [] n at off = refl
closed (r ∷ ws) n at off = on (r.serial == n) refl (closed ws n at off) where
  rest : List Window
  rest = filter (λ (v : Window). not (v.serial == n)) ws

  later : (b : Bool) → label_in (filter (λ (v : Window). not (v.serial == n)) ws) at ≡ label_in ws at
      → option_map label (if b then Some r else row_of serial (filter (λ (v : Window). not (v.serial == n)) ws) at) ≡
      option_map label (if b then Some r else row_of serial ws at)
  later true same = refl
  later false same = same

  on : (b : Bool) → (r.serial == n) ≡ b → label_in (filter (λ (v : Window). not (v.serial == n)) ws) at ≡ label_in ws at
      → label_in
      (if not b then r ∷ filter (λ (v : Window). not (v.serial == n)) ws else filter
      (λ (v : Window). not (v.serial == n)) ws) at ≡ label_in (r ∷ ws) at
  on true here same = same
      ∙ sym
      (ap (λ (b : Bool). option_map label (if b then Some r else row_of serial ws at))
      (ap (λ k. k == at) (equal r.serial n here) ∙ off))
  on false here same = later (r.serial == at) same

pub opened : (ws : List Window) (v : Window) (at : ℕ) → (v.serial == at) ≡ false
    → label_in (ws ++ v ∷ []) at ≡ label_in ws at
opened [] v at off = ap (λ (b : Bool). option_map label (if b then Some v else None)) off
opened (r ∷ ws) v at off = on (r.serial == at) (opened ws v at off) where
  on : (b : Bool) → label_in (ws ++ v ∷ []) at ≡ label_in ws at
      → option_map label (if b then Some r else row_of serial (ws ++ v ∷ []) at) ≡ option_map label
      (if b then Some r else row_of serial ws at)
  on true same = refl
  on false same = same

-- what is written to a window leaves its number and its title
pub written_label : (t : Tables) (w v : Window) (at : ℕ) → window_at t w.serial ≡ Some w → v.serial ≡ w.serial
    → label v ≡ label w → label_in (with_window t v).windows at ≡ label_in t.windows at
written_label t w v at row is same =
    changed t.windows v.serial v at refl
    (λ r here. same
    ∙
    (let e : Some w ≡ Some r = sym row ∙ ap (row_of serial t.windows) (sym is)
    ∙ here in (let f : w ≡ r = cc (e) in ap label f)))

-- ---- the kinds

module _ (t : Tables) (k : Caller) (row : (w : Window) → k.window ≡ Some w → window_at t w.serial ≡ Some w) (at : ℕ)
  where
    abbrev Names : Order → Type 0
    Names c = ((names_its_window (name_of c) ≡ true) × IsOn k.window at) ⊎ (name_of c ≡ name.Quit)

    abbrev pub KeepsLabel : Order → Deed → Type 0
    KeepsLabel c d = (label_in d.tables.windows at ≡ label_in t.windows at) ⊎ Names c

    removal : (c : Order) (o : Option UserId) → KeepsLabel c (removes o t)
    removal c None = inl refl
    removal c (Some u) = inl refl

    writes : (c : Order) (w : Window) (what : written.Writing) → k.window ≡ Some w
        → KeepsLabel c (deeds.writes t w what)
    writes c w what is = inl (written_label t w (record w { writing = w.writing ++ what ∷ [] }) at (row w is) refl refl)

    own : (c : Order) → names_its_window (name_of c) ≡ true → (w : Window) → k.window ≡ Some w → (ws : List Window)
        → ((w.serial == at) ≡ false → label_in ws at ≡ label_in t.windows at)
        → (label_in ws at ≡ label_in t.windows at) ⊎ Names c
    own c names w is ws off = on (w.serial == at) refl where
      on : (b : Bool) → (w.serial == at) ≡ b → (label_in ws at ≡ label_in t.windows at) ⊎ Names c
      on true here = inr (inl (names, subst (λ o. IsOn o at) (sym is) (equal w.serial at here)))
      on false here = inl (off here)

    names_it : (c x : Order) → c ≡ x → names_its_window (name_of x) ≡ true → names_its_window (name_of c) ≡ true
    names_it c x is names = ap (λ (y : Order). names_its_window (name_of y)) is ∙ names

    deed_kept : (c : Order) (d : Deed) → shapes.Shape t k c d → KeepsLabel c d
    deed_kept c d (shapes.writes_to w what one here) = writes c w what here
    deed_kept c d (shapes.removed word is clear) = removal c (named_by word)
    deed_kept c d (shapes.fitted w rows columns is here) = inl
        (written_label t w (record w { writing = w.writing ++ written.Size rows columns ∷ [] }) at (row w here) refl
        refl)
    deed_kept c d (shapes.titled w bytes is here) =
        own c (names_it c _ is refl) w here (with_window t (record w { title = bytes })).windows
        (elsewhere t.windows w.serial (record w { title = bytes }) at refl)
    deed_kept c d (shapes.numbered w n is here free) =
        own c (names_it c _ is refl) w here (with_window t (record w { number = n })).windows
        (elsewhere t.windows w.serial (record w { number = n }) at refl)
    deed_kept c d (shapes.killed w is here) = own c (names_it c _ is refl) w here
        (filter (λ (v : Window). not (v.serial == w.serial)) t.windows) (closed t.windows w.serial at)
    deed_kept c d (shapes.quits is) = inr (inr (ap name_of is))
    deed_kept c d kind = inl refl

    pub labels_kept : (c : Order) → Either (KeepsLabel c) (does t k c)
    labels_kept c = shapes.by_shape (KeepsLabel c) t k c (deed_kept c)
