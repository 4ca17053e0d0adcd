-- What keeps the rows of a table of windows sound: serials rise, and numbers differ.
use Rattle.windows.proofs.Vocabulary.{◌≡◌, ◌≢◌, ℕ, zero, suc, ◌<◌, Bool, true, false, List, [], ◌∷◌, ◌++◌, Some, None}
use Rattle.windows.proofs.Vocabulary.{length, map, filter, not, inl, inr, get_or, refl, ap, sym, subst, ◌∙◌, arith}
use Rattle.windows.proofs.Vocabulary.{⊎_elim, ◌⊎◌, ◌==◌, ◌&&◌, ◌||◌, ◌+◌, nat_lt, if◌then◌else◌, AllPairs, find}
use Rattle.windows.proofs.Vocabulary.{nat_tests, list_any, range_with_len, option_map_or, WINDOWS, row_of, with_row}
use Rattle.windows.proofs.Vocabulary.{serial_is, Window, is_above, taken_by_other, first_free, AreRows, ChangesRow}
use Rattle.std.proofs.lemmas.List.{get_or-map, length-map}
use Rattle.std.proofs.lemmas.List.Kept.{AllPairs-filter}
use Rattle.std.proofs.lemmas.List.Quantifiers.{all_pairs_push}
use Rattle.windows_model.proofs.Serials.{serials_stay, with_other, is_equal, equal_number}
use Rattle.windows.specs.Among.{has_number}
use Rattle.windows.specs.Rows.{serial_of, number_of, KeepsName, WritesRow, LosesRow}

-- ---- rows that come and go

abbrev Before : Window → Window → Type 0
Before v w = v.serial < w.serial

abbrev Apart : Window → Window → Type 0
Apart v w = v.number ≢ w.number

pub rows_kept : (p : Window → Bool) (ws : List Window) → AreRows ws → AreRows (filter p ws)
rows_kept p ws are = record {
  rise = AllPairs-filter Before p ws are.rise;
  differ = AllPairs-filter Apart p ws are.differ;
}

-- the row with the serial goes
abbrev stays_without : ℕ → Window → Bool
stays_without s w = not (w.serial == s)

kept_there : (ws : List Window) (s k : ℕ) → k ≢ s
    → row_of serial_of (filter (stays_without s) ws) k ≡ row_of serial_of ws k
kept_there [] s k other = refl
kept_there (w ∷ ws) s k other = by_serial (w.serial == s) refl (w.serial == k) refl (kept_there ws s k other)
  where
    by_serial : (b : Bool) → (w.serial == s) ≡ b → (a : Bool) → (w.serial == k) ≡ a
        → row_of serial_of (filter (stays_without s) ws) k ≡ row_of serial_of ws k
        → row_of serial_of (if not b then w ∷ filter (stays_without s) ws else filter (stays_without s) ws) k ≡
        (if a then Some w else row_of serial_of ws k)
    by_serial true goes true found rest = absurd (other (sym (is_equal w.serial k found) ∙ is_equal w.serial s goes))
    by_serial true goes false found rest = rest
    by_serial false stays true found rest = ap
        (λ x. if x then Some w else row_of serial_of (filter (stays_without s) ws) k) found
    by_serial false stays false found rest = ap
        (λ x. if x then Some w else row_of serial_of (filter (stays_without s) ws) k) found ∙ rest

none_goes : (ws : List Window) (s : ℕ) → row_of serial_of ws s ≡ None → filter (stays_without s) ws ≡ ws
none_goes [] s none = refl
none_goes (w ∷ ws) s none = by_serial (w.serial == s) none (none_goes ws s)
  where
    by_serial : (b : Bool) → (if b then Some w else row_of serial_of ws s) ≡ None
        → (row_of serial_of ws s ≡ None → filter (stays_without s) ws ≡ ws)
        → (if not b then w ∷ filter (stays_without s) ws else filter (stays_without s) ws) ≡ w ∷ ws
    by_serial true missing rest = absurd (cc missing)
    by_serial false missing rest = ap (λ vs. w ∷ vs) (rest missing)

pub row_lost : (old new : List Window) (s : ℕ) → new ≡ filter (stays_without s) old → LosesRow s old new
row_lost old new s is = record {
  rest = is;
  others = λ k other. ap (λ ws. row_of serial_of ws k) is ∙ kept_there old s k other;
}

pub none_lost : (old : List Window) (s : ℕ) → row_of serial_of old s ≡ None → LosesRow s old old
none_lost old s none = row_lost old old s (sym (none_goes old s none))

-- ---- a row that changes at its place

module _ (g : Window → ℕ) where
  -- what a row's change leaves, the list of rows leaves
  by_first : (b : Bool) (w : Window) (ws changed : List Window) (s : ℕ) (old new : Window)
      → (if b then Some w else row_of serial_of ws s) ≡ Some old → g new ≡ g old
      → (row_of serial_of ws s ≡ Some old → map g changed ≡ map g ws)
      → map g (if b then new ∷ ws else w ∷ changed) ≡ map g (w ∷ ws)
  by_first true w ws changed s old new at same on = let e : w ≡ old = cc (at) in ap (λ n. n ∷ map g ws)
      (same ∙ ap g (sym e))
  by_first false w ws changed s old new at same on = ap (λ ns. g w ∷ ns) (on at)

  pub stays : (ws : List Window) (s : ℕ) (old new : Window) → row_of serial_of ws s ≡ Some old → g new ≡ g old
      → map g (with_row serial_of ws s new) ≡ map g ws
  stays [] s old new at same = refl
  stays (w ∷ ws) s old new at same = by_first (w.serial == s) w ws (with_row serial_of ws s new) s old new at same
      (λ on. stays ws s old new on same)

  -- the value is the same at each place
  pub same_at : (old new : List Window) (i : ℕ) (d : Window) → map g new ≡ map g old → i < length new
      → g (get_or new i d) ≡ g (get_or old i d)
  same_at old new i d same inside =
      let n : length new ≡ length old = sym (length-map new g) ∙ ap length same ∙ length-map old g in
      sym (get_or-map g new i d (g d) inside) ∙ ap (λ ns. get_or ns i (g d)) same
      ∙ get_or-map g old i d (g d) (omega arith)

pub same_length : (g : Window → ℕ) (old new : List Window) → map g new ≡ map g old → length new ≡ length old
same_length g old new same = sym (length-map new g) ∙ ap length same ∙ length-map old g

rise_stays : (old new : List Window) → map serial_of new ≡ map serial_of old
    → AllPairs (λ (v w : Window). v.serial < w.serial) old → AllPairs (λ (v w : Window). v.serial < w.serial) new
rise_stays old new same rise i j d before inside =
    let n : length new ≡ length old = same_length serial_of old new same in
    let a : (get_or new i d).serial ≡ (get_or old i d).serial = same_at serial_of old new i d same (omega arith) in
    let b : (get_or new j d).serial ≡ (get_or old j d).serial = same_at serial_of old new j d same inside in
    let r : (get_or old i d).serial < (get_or old j d).serial = rise i j d before (omega arith) in
    omega arith

differ_stays : (old new : List Window) → map number_of new ≡ map number_of old
    → AllPairs (λ (v w : Window). v.number ≢ w.number) old → AllPairs (λ (v w : Window). v.number ≢ w.number) new
differ_stays old new same differ i j d before inside e =
    let n : length new ≡ length old = same_length number_of old new same in
    differ i j d before (omega arith)
    (sym (same_at number_of old new i d same (omega arith)) ∙ e ∙ same_at number_of old new j d same inside)

-- a row that keeps its serial and its number
module _ (old new : List Window) (s : ℕ) (w made : Window) (at : row_of serial_of old s ≡ Some w)
    (is : new ≡ with_row serial_of old s made) where
  pub row_changes : made.serial ≡ w.serial → ChangesRow s old new
  row_changes same = record {
    serials = ap (λ ws. map serial_of ws) is
        ∙ serials_stay serial_of old s made (same ∙ serial_is serial_of old s w at);
    others = λ t other. ap (λ ws. row_of serial_of ws t) is
        ∙ with_other serial_of old s t made (same ∙ serial_is serial_of old s w at) other;
  }

  pub row_writes : KeepsName w made → WritesRow s old new
  row_writes kept = record {
    row = row_changes kept.serial;
    numbers = ap (λ ws. map number_of ws) is ∙ stays number_of old s w made at kept.number;
  }

pub rows_written : (old new : List Window) (s : ℕ) → WritesRow s old new → AreRows old → AreRows new
rows_written old new s written are = record {
  rise = rise_stays old new written.row.serials are.rise;
  differ = differ_stays old new written.numbers are.differ;
}

-- a call that changes nothing
pub none_changes : (s : ℕ) (ws : List Window) → ChangesRow s ws ws
none_changes s ws = record { serials = refl; others = λ t other. refl }

-- ---- a row that gets another number

tail : (R : Window → Window → Type 0) (w : Window) (ws : List Window) → AllPairs R (w ∷ ws) → AllPairs R ws
tail R w ws are i j d before inside = are (suc i) (suc j) d (omega arith) (omega arith)

-- the row at a place is the new row or an old one
at_place : (ws : List Window) (s : ℕ) (made : Window) (k : ℕ) (d : Window)
    → (get_or (with_row serial_of ws s made) k d ≡ made) ⊎ (get_or (with_row serial_of ws s made) k d ≡ get_or ws k d)
at_place [] s made k d = inr refl
at_place (w ∷ ws) s made k d = by_first_place (w.serial == s) k (λ n. at_place ws s made n d)
  where
    by_first_place : (b : Bool) (k : ℕ)
        →
        ((n : ℕ)
        → (get_or (with_row serial_of ws s made) n d ≡ made) ⊎
        (get_or (with_row serial_of ws s made) n d ≡ get_or ws n d))
        → (get_or (if b then made ∷ ws else w ∷ with_row serial_of ws s made) k d ≡ made) ⊎
        (get_or (if b then made ∷ ws else w ∷ with_row serial_of ws s made) k d ≡ get_or (w ∷ ws) k d)
    by_first_place true zero behind = inl refl
    by_first_place true (suc k) behind = inr refl
    by_first_place false zero behind = inr refl
    by_first_place false (suc k) behind = behind k

not_false : (b : Bool) → not b ≡ false → b ≡ true
not_false true is = refl
not_false false is = absurd (cc is)

-- no window with another serial has a number that isn't taken
free_of : (ws : List Window) (s n : ℕ) → AllPairs Apart ws → taken_by_other ws s n ≡ false → (k : ℕ) (d : Window)
    → k < length ws → (get_or ws k d).serial ≢ s → (get_or ws k d).number ≢ n
free_of [] s n differ free k d inside other = λ e. absurd (omega (arith, inside))
free_of (w ∷ ws) s n differ free k d inside other =
    by_number (w.number == n) refl free k inside other
    (λ rest j within apart. free_of ws s n (tail Apart w ws differ) rest j d within apart)
  where
    by_number : (b : Bool) → (w.number == n) ≡ b
        → option_map_or (λ (v : Window). not (v.serial == s)) (if b then Some w else find (has_number n) ws) false ≡
        false
        → (k : ℕ) → k < length (w ∷ ws) → (get_or (w ∷ ws) k d).serial ≢ s
        → (taken_by_other ws s n ≡ false → (j : ℕ) → j < length ws → (get_or ws j d).serial ≢ s
        → (get_or ws j d).number ≢ n)
        → (get_or (w ∷ ws) k d).number ≢ n
    by_number true is own zero inside other behind e = other (is_equal w.serial s (not_false (w.serial == s) own))
    by_number true is own (suc k) inside other behind e = differ 0 (suc k) d (omega arith) inside
        (is_equal w.number n is ∙ sym e)
    by_number false is rest zero inside other behind e = absurd (cc (is, equal_number w.number n e))
    by_number false is rest (suc k) inside other behind e = behind rest k (omega (arith, inside)) other e

pub rows_renumbered : (old new : List Window) (s n : ℕ) (w made : Window) → row_of serial_of old s ≡ Some w
    → made.serial ≡ w.serial → made.number ≡ n → taken_by_other old s n ≡ false
    → new ≡ with_row serial_of old s made → AreRows old → AreRows new
rows_renumbered old new s n w made at serial number free is are = subst AreRows (sym is) (record {
  rise = rise_stays old (with_row serial_of old s made) same are.rise;
  differ = differ;
})
  where
    mine : made.serial ≡ s
    mine = serial ∙ serial_is serial_of old s w at

    same : map serial_of (with_row serial_of old s made) ≡ map serial_of old
    same = serials_stay serial_of old s made mine

    n_is : length (with_row serial_of old s made) ≡ length old
    n_is = same_length serial_of old (with_row serial_of old s made) same

    differ : AllPairs (λ (v w : Window). v.number ≢ w.number) (with_row serial_of old s made)
    differ i j d before inside e =
        let a : (get_or (with_row serial_of old s made) i d).serial ≡ (get_or old i d).serial = same_at serial_of old
        (with_row serial_of old s made) i d same (omega arith) in
        let b : (get_or (with_row serial_of old s made) j d).serial ≡ (get_or old j d).serial = same_at serial_of old
        (with_row serial_of old s made) j d same inside in
        let r : (get_or old i d).serial < (get_or old j d).serial = are.rise i j d before (omega (arith, n_is)) in
        ⊎_elim
        (λ p. let x : (get_or (with_row serial_of old s made) i d).serial ≡ s = ap serial_of p ∙ mine in
        ⊎_elim
        (λ q. let y : (get_or (with_row serial_of old s made) j d).serial ≡ s = ap serial_of q
        ∙ mine in absurd (omega (arith, a, b, r, x, y)))
        (λ q. free_of old s n are.differ free j d (omega (arith, n_is)) (λ y. absurd (omega (arith, a, r, x, y)))
        (sym (ap number_of q) ∙ sym e ∙ ap number_of p ∙ number))
        (at_place old s made j d))
        (λ p. ⊎_elim
        (λ q. let y : (get_or (with_row serial_of old s made) j d).serial ≡ s = ap serial_of q ∙ mine in
        free_of old s n are.differ free i d (omega (arith, n_is)) (λ x. absurd (omega (arith, b, r, x, y)))
        (sym (ap number_of p) ∙ e ∙ ap number_of q ∙ number))
        (λ q. are.differ i j d before (omega (arith, n_is)) (sym (ap number_of p) ∙ e ∙ ap number_of q))
        (at_place old s made j d))
        (at_place old s made i d)

-- ---- one row more

-- a number that is found in a range lies in it
found_in_range : (p : ℕ → Bool) (start count n : ℕ) → find p (range_with_len start count) ≡ Some n → (p n ≡ true)
    × (n < start + count)
found_in_range p start zero n is = absurd (cc is)
found_in_range p start (suc count) n is = by_test (p start) refl is (λ at. found_in_range p (start + 1) count n at)
  where
    by_test : (b : Bool) → p start ≡ b → (if b then Some start else find p (range_with_len (start + 1) count)) ≡ Some n
        → (find p (range_with_len (start + 1) count) ≡ Some n → (p n ≡ true) × (n < start + 1 + count)) → (p n ≡ true)
        × (n < start + suc count)
    by_test true passes at behind = let e : start ≡ n = cc at in (subst (λ k. p k ≡ true) e passes, omega (arith, e))
    by_test false fails at behind = let rest = behind at in (rest.0, omega (arith, rest.1))

pub small_free : (ws : List Window) (n : ℕ) → first_free ws ≡ Some n → n < WINDOWS
small_free ws n is = let f = found_in_range (λ k. not (list_any (has_number k) ws)) 0 WINDOWS n is in omega (arith, f.1)

not_true : (b : Bool) → not b ≡ true → b ≡ false
not_true true is = absurd (cc is)
not_true false is = refl

none_has : (ws : List Window) (n : ℕ) → list_any (has_number n) ws ≡ false → (k : ℕ) (d : Window) → k < length ws
    → (get_or ws k d).number ≢ n
none_has [] n none k d inside = λ e. absurd (omega (arith, inside))
none_has (w ∷ ws) n none k d inside = by_number (w.number == n) refl none k inside
    (λ rest j within. none_has ws n rest j d within)
  where
    by_number : (b : Bool) → (w.number == n) ≡ b → (b || list_any (has_number n) ws) ≡ false → (k : ℕ)
        → k < length (w ∷ ws)
        → (list_any (has_number n) ws ≡ false → (j : ℕ) → j < length ws → (get_or ws j d).number ≢ n)
        → (get_or (w ∷ ws) k d).number ≢ n
    by_number true is none k inside behind e = absurd (cc none)
    by_number false is none zero inside behind e = absurd (cc (is, equal_number w.number n e))
    by_number false is none (suc k) inside behind e = behind none k (omega (arith, inside)) e

above_all : (ws : List Window) (s : ℕ) → is_above s ws ≡ true → (k : ℕ) (d : Window) → k < length ws
    → (get_or ws k d).serial < s
above_all [] s above k d inside = absurd (omega (arith, inside))
above_all (w ∷ ws) s above k d inside = by_serial (nat_lt w.serial s) refl above k inside
    (λ rest j within. above_all ws s rest j d within)
  where
    by_serial : (b : Bool) → nat_lt w.serial s ≡ b → (b && is_above s ws) ≡ true → (k : ℕ) → k < length (w ∷ ws)
        → (is_above s ws ≡ true → (j : ℕ) → j < length ws → (get_or ws j d).serial < s)
        → (get_or (w ∷ ws) k d).serial < s
    by_serial true is above zero inside behind = grind (arith, nat_tests, is)
    by_serial true is above (suc k) inside behind = behind above k (omega (arith, inside))
    by_serial false is above k inside behind = absurd (cc above)

pub rows_added : (ws : List Window) (w : Window) (s n : ℕ) → is_above s ws ≡ true → first_free ws ≡ Some n
    → w.serial ≡ s → w.number ≡ n → AreRows ws → AreRows (ws ++ w ∷ [])
rows_added ws w s n above free serial number are =
    let none : list_any (has_number n) ws ≡ false = not_true _
    (found_in_range (λ k. not (list_any (has_number k) ws)) 0 WINDOWS n free).0 in record {
      rise = all_pairs_push Before ws w are.rise
          (λ k d inside. subst (λ t. (get_or ws k d).serial < t) (sym serial) (above_all ws s above k d inside));
      differ = all_pairs_push Apart ws w are.differ (λ k d inside e. none_has ws n none k d inside (e ∙ number));
    }
