-- Windows that are open have different numbers, and so do their serials.
use Rattle.session_laws.proofs.Vocabulary.{◌≡◌, ℕ, Bool, true, false, not, List, [], ◌∷◌, ◌++◌, Option, Some, None}
use Rattle.session_laws.proofs.Vocabulary.{filter, find, is_some, refl, ap, sym, ◌∙◌, arith, subst, if◌then◌else◌, ◌==◌}
use Rattle.session_laws.proofs.Vocabulary.{◌||◌, unwrap_or, list_any, range_with_len, nat_tests, Window, row_of}
use Rattle.session_laws.proofs.Vocabulary.{with_row, with_number, has_number, free_number, NumbersDiffer, equal}

abbrev pub serial_of : Window → ℕ
serial_of w = w.serial

-- the serials of windows differ
abbrev pub Differ : List Window → Type 0
Differ [] = Unit {0}
Differ (w ∷ windows) = (row_of serial_of windows w.serial ≡ None) × Differ windows

differs : {P : Type 0} (m n : ℕ) → m ≡ n → (m == n) ≡ false → P
differs m n same is = absurd (grind (arith, nat_tests, same, is))

none_some : {A P : Type 0} (o : Option A) (x : A) → o ≡ None → o ≡ Some x → P
none_some None x a b = absurd (cc (b))
none_some (Some y) x a b = absurd (cc (a))

number_with : (ws : List Window) (s n : ℕ) (w : Window) → (w.number == n) ≡ false → with_number ws n ≡ None
    → with_number (with_row serial_of ws s w) n ≡ None
number_with [] s n w other none = refl
number_with (r ∷ ws) s n w other none = on (r.serial == s) (r.number == n) refl none (number_with ws s n w other) where
  on : (a b : Bool) → (r.number == n) ≡ b → (if b then Some r else with_number ws n) ≡ None
      → (with_number ws n ≡ None → with_number (with_row serial_of ws s w) n ≡ None)
      → with_number (if a then w ∷ ws else r ∷ with_row serial_of ws s w) n ≡ None
  on a true at none more = absurd (cc (none))
  on true false at none more = rw other none
  on false false at none more = rw at (more none)

-- no window of another serial has this number
abbrev pub IsFree : List Window → ℕ → ℕ → Type 0
IsFree ws s n = (v : Window) → with_number ws n ≡ Some v → v.serial ≡ s

serial_there : (ws : List Window) (n : ℕ) (v : Window) → with_number ws n ≡ Some v → row_of serial_of ws v.serial ≡ None
    → ⊥
serial_there [] n v is none = absurd (cc (is))
serial_there (r ∷ ws) n v is none = on (r.number == n) (r.serial == v.serial) refl is none (serial_there ws n v) where
  self : r ≡ v → (r.serial == v.serial) ≡ false → ⊥
  self e not_at = differs r.serial v.serial (ap serial_of e) not_at

  on : (a b : Bool) → (r.serial == v.serial) ≡ b → (if a then Some r else with_number ws n) ≡ Some v
      → (if b then Some r else row_of serial_of ws v.serial) ≡ None
      → (with_number ws n ≡ Some v → row_of serial_of ws v.serial ≡ None → ⊥) → ⊥
  on a true at is none more = absurd (cc (none))
  on true false at is none more = self (let e : r ≡ v = cc (is) in e) at
  on false false at is none more = more is none

none_of : (o : Option Window) → ((v : Window) → o ≡ Some v → ⊥) → o ≡ None
none_of None not = refl
none_of (Some v) not = absurd (not v refl)

module _ (s : ℕ) (w : Window) (same : w.serial ≡ s) where
  pub with_numbers : (ws : List Window) → Differ ws → NumbersDiffer ws → IsFree ws s w.number
      → NumbersDiffer (with_row serial_of ws s w)
  with_numbers [] serials all free = tt
  with_numbers (r ∷ ws) serials all free = on (r.serial == s) refl (with_numbers ws serials.1 all.1) where
    later : (b : Bool) → (r.number == w.number) ≡ b
        → ((v : Window) → (if b then Some r else with_number ws w.number) ≡ Some v → v.serial ≡ s) → (v : Window)
        → with_number ws w.number ≡ Some v → v.serial ≡ s
    later true at free v is = none_some (with_number ws w.number) v
        (ap (with_number ws) (sym (equal r.number w.number at)) ∙ all.0) is
    later false at free v is = free v is

    free_later : IsFree ws s w.number
    free_later = later (r.number == w.number) refl free

    apart : (b : Bool) → (r.number == w.number) ≡ b → (r.serial == s) ≡ false
        → ((v : Window) → (if b then Some r else with_number ws w.number) ≡ Some v → v.serial ≡ s)
        → (w.number == r.number) ≡ false
    apart true at not_at free = differs r.serial s (free r refl) not_at
    apart false at not_at free = grind (arith, nat_tests, at)

    on : (b : Bool) → (r.serial == s) ≡ b → (IsFree ws s w.number → NumbersDiffer (with_row serial_of ws s w))
        → NumbersDiffer (if b then w ∷ ws else r ∷ with_row serial_of ws s w)
    on true is rest = (
      none_of (with_number ws w.number)
          (λ v at. serial_there ws w.number v at
          (ap (row_of serial_of ws) (free_later v at ∙ sym (equal r.serial s is)) ∙ serials.0)),
      all.1,
    )
    on false is rest = (number_with ws s r.number w (apart (r.number == w.number) refl is free) all.0, rest free_later)

pub numbered : (ws : List Window) (s : ℕ) (v : Window) → NumbersDiffer ws
    → row_of (λ (w : Window). w.serial) ws s ≡ Some v → with_number ws v.number ≡ Some v
numbered [] s v differ is = absurd (cc (is))
numbered (w ∷ ws) s v differ is = on (w.serial == s) is (numbered ws s v differ.1) where
  later : (b : Bool) → (w.number == v.number) ≡ b → with_number ws v.number ≡ Some v
      → (if b then Some w else with_number ws v.number) ≡ Some v
  later true same found = absurd
      (let e : w.number ≡ v.number = grind (arith, nat_tests, same) in let f : None ≡ Some v = sym (differ.0)
      ∙ ap (with_number ws) e ∙ found in cc (f))
  later false same found = found

  first : (n : ℕ) → (if n == n then Some w else with_number ws n) ≡ Some w
  first n = rw (let e : (n == n) ≡ true = grind (arith, nat_tests) in e)

  on : (b : Bool) → (if b then Some w else row_of (λ (w : Window). w.serial) ws s) ≡ Some v
      → (row_of (λ (w : Window). w.serial) ws s ≡ Some v → with_number ws v.number ≡ Some v)
      → with_number (w ∷ ws) v.number ≡ Some v
  on true is more = let e : w ≡ v = cc (is) in subst (λ (x : Window). with_number (w ∷ ws) x.number ≡ Some x) e
      (first w.number)
  on false is more = later (w.number == v.number) refl (more is)

number_fewer : (p : Window → Bool) (ws : List Window) (n : ℕ) → with_number ws n ≡ None
    → with_number (filter p ws) n ≡ None
number_fewer p [] n none = refl
number_fewer p (r ∷ ws) n none = on (p r) (r.number == n) refl none (number_fewer p ws n) where
  on : (a b : Bool) → (r.number == n) ≡ b → (if b then Some r else with_number ws n) ≡ None
      → (with_number ws n ≡ None → with_number (filter p ws) n ≡ None)
      → with_number (if a then r ∷ filter p ws else filter p ws) n ≡ None
  on a true at none more = absurd (cc (none))
  on true false at none more = rw at (more none)
  on false false at none more = more none

pub fewer_numbers : (p : Window → Bool) (ws : List Window) → NumbersDiffer ws → NumbersDiffer (filter p ws)
fewer_numbers p [] all = tt
fewer_numbers p (r ∷ ws) all = on (p r) (fewer_numbers p ws all.1) where
  on : (b : Bool) → NumbersDiffer (filter p ws) → NumbersDiffer (if b then r ∷ filter p ws else filter p ws)
  on true rest = (number_fewer p ws r.number all.0, rest)
  on false rest = rest

pub more_numbers : (ws : List Window) (w : Window) → NumbersDiffer ws → with_number ws w.number ≡ None
    → NumbersDiffer (ws ++ w ∷ [])
more_numbers [] w all new = (refl, tt)
more_numbers (r ∷ ws) w all new = on (r.number == w.number) refl new (more_numbers ws w all.1) where
  step : (x : Window) (xs : List Window) (q : ℕ) (b : Bool) → (if b then Some x else with_number xs q) ≡ None
      → (with_number xs q ≡ None → with_number (xs ++ w ∷ []) q ≡ None)
      → (if b then Some x else with_number (xs ++ w ∷ []) q) ≡ None
  step x xs q true none more = absurd (cc (none))
  step x xs q false none more = more none

  last : (xs : List Window) (q : ℕ) → (w.number == q) ≡ false → with_number xs q ≡ None
      → with_number (xs ++ w ∷ []) q ≡ None
  last [] q other none = rw other
  last (x ∷ xs) q other none = step x xs q (x.number == q) none (last xs q other)

  on : (b : Bool) → (r.number == w.number) ≡ b → (if b then Some r else with_number ws w.number) ≡ None
      → (with_number ws w.number ≡ None → NumbersDiffer (ws ++ w ∷ [])) → NumbersDiffer (r ∷ (ws ++ w ∷ []))
  on true at new more = absurd (cc (new))
  on false at new more =
      (last ws r.number (let e : (w.number == r.number) ≡ false = grind (arith, nat_tests, at) in e) all.0, more new)

free_none : (ws : List Window) (n : ℕ) → list_any (has_number n) ws ≡ false → with_number ws n ≡ None
free_none [] n is = refl
free_none (r ∷ ws) n is = on (r.number == n) is (free_none ws n) where
  on : (b : Bool) → (b || list_any (has_number n) ws) ≡ false
      → (list_any (has_number n) ws ≡ false → with_number ws n ≡ None) → (if b then Some r else with_number ws n) ≡ None
  on true is more = absurd (cc (is))
  on false is more = more is

found : (p : ℕ → Bool) (ns : List ℕ) (n : ℕ) → find p ns ≡ Some n → p n ≡ true
found p [] n is = absurd (cc (is))
found p (m ∷ ns) n is = on (p m) refl is (found p ns n) where
  on : (b : Bool) → p m ≡ b → (if b then Some m else find p ns) ≡ Some n → (find p ns ≡ Some n → p n ≡ true)
      → p n ≡ true
  on true at is more = let e : m ≡ n = cc (is) in ap p (sym e) ∙ at
  on false at is more = more is

pub number_free : (ws : List Window) (o : Option ℕ) → free_number ws ≡ o → is_some o ≡ true
    → with_number ws (unwrap_or o 0) ≡ None
number_free ws None is some = absurd (cc (some))
number_free ws (Some n) is some = free_none ws n
    (on (list_any (has_number n) ws) (found (λ n. not (list_any (has_number n) ws)) (range_with_len 0 40) n is)) where
      on : (b : Bool) → not b ≡ true → b ≡ false
      on true is = absurd (cc (is))
      on false is = refl

-- a row with the same serial and number may stand in a row's place
pub own_number : (ws : List Window) (w : Window) → row_of serial_of ws w.serial ≡ Some w → NumbersDiffer ws
    → IsFree ws w.serial w.number
own_number ws w at numbers v is =
    let both : Some v ≡ Some w = sym is ∙ numbered ws w.serial w numbers at in
    let e : v ≡ w = cc (both) in ap serial_of e
