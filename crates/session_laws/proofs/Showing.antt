-- Windows that commands name are open, and pages show open windows.
use Rattle.session_laws.proofs.Vocabulary.{◌≡◌, ℕ, zero, suc, ◌+◌, Bool, true, false, List, [], ◌∷◌, ◌++◌, Option, Some}
use Rattle.session_laws.proofs.Vocabulary.{None, refl, ap, sym, ◌∙◌, subst, filter, take, drop, inl, inr, ⊎_elim, arith}
use Rattle.session_laws.proofs.Vocabulary.{if◌then◌else◌, ◌==◌, nat_lt, MatchOption, slice_get, slice_set, unwrap_or}
use Rattle.session_laws.proofs.Vocabulary.{find, AllByRecursion, insert, remove, option_and_then, option_or, spelled}
use Rattle.session_laws.proofs.Vocabulary.{Shown, Arrangement, empty, Tables, Window, Client, with_row, window_at}
use Rattle.session_laws.proofs.Vocabulary.{with_number, lower, lowest, higher, highest, window_named, window_after}
use Rattle.session_laws.proofs.Vocabulary.{window_before, SomeOf, all_append, some_row}
use Rattle.session_laws.proofs.DifferentNumbers.{serial_of}

-- ---- lists

pub some_has : {A : Type 0} (P : A → Type 0) (x : A) (xs : List A) → SomeOf (λ y. y ≡ x) xs → AllByRecursion P xs → P x
some_has P x [] some all = absurd some
some_has P x (y ∷ xs) some all = ⊎_elim (λ (here : y ≡ x). subst P here all.0) (λ later. some_has P x xs later all.1)
    some

pub all_row : {A : Type 0} (P : A → Type 0) (f : A → ℕ) (rows : List A) (n : ℕ) (x : A) → P x → AllByRecursion P rows
    → AllByRecursion P (with_row f rows n x)
all_row P f [] n x here all = tt
all_row P f (r ∷ rows) n x here all = on (f r == n) (all_row P f rows n x here all.1) where
  on : (b : Bool) → AllByRecursion P (with_row f rows n x)
      → AllByRecursion P (if b then x ∷ rows else r ∷ with_row f rows n x)
  on true rest = (here, all.1)
  on false rest = (all.0, rest)

take_all : {A : Type 0} (P : A → Type 0) (n : ℕ) (xs : List A) → AllByRecursion P xs → AllByRecursion P (take n xs)
take_all P zero xs all = tt
take_all P (suc n) [] all = tt
take_all P (suc n) (x ∷ xs) all = (all.0, take_all P n xs all.1)

drop_all : {A : Type 0} (P : A → Type 0) (n : ℕ) (xs : List A) → AllByRecursion P xs → AllByRecursion P (drop n xs)
drop_all P zero xs all = all
drop_all P (suc n) [] all = tt
drop_all P (suc n) (x ∷ xs) all = drop_all P n xs all.1

pub set_all : {A : Type 0} (P : A → Type 0) (xs : List A) (n : ℕ) (x : A) → P x → AllByRecursion P xs
    → AllByRecursion P (slice_set xs n x)
set_all P [] n x here all = tt
set_all P (y ∷ xs) zero x here all = (here, all.1)
set_all P (y ∷ xs) (suc n) x here all = (all.0, set_all P xs n x here all.1)

pub get_all : {A : Type 0} (P : A → Type 0) (xs : List A) (n : ℕ) (d : A) → P d → AllByRecursion P xs
    → P (unwrap_or (slice_get xs n) d)
get_all P [] n d here all = here
get_all P (x ∷ xs) zero d here all = all.0
get_all P (x ∷ xs) (suc n) d here all = get_all P xs n d here all.1

pub insert_all : {A : Type 0} (P : A → Type 0) (xs : List A) (n : ℕ) (x : A) → P x → AllByRecursion P xs
    → AllByRecursion P (insert xs n x)
insert_all P xs n x here all = all_append P (take n xs) (x ∷ drop n xs) (take_all P n xs all)
    (here, drop_all P n xs all)

pub remove_all : {A : Type 0} (P : A → Type 0) (xs : List A) (n : ℕ) → AllByRecursion P xs
    → AllByRecursion P (remove xs n)
remove_all P xs n all = all_append P (take n xs) (drop (suc n) xs) (take_all P n xs all) (drop_all P (suc n) xs all)

-- ---- windows that are named are there

abbrev pub IsThere : List Window → Window → Type 0
IsThere ws w = SomeOf (λ v. v ≡ w) ws

found_there : (p : Window → Bool) (ws : List Window) (w : Window) → find p ws ≡ Some w → IsThere ws w
found_there p [] w is = absurd (cc (is))
found_there p (r ∷ ws) w is = on (p r) is (found_there p ws w) where
  on : (b : Bool) → (if b then Some r else find p ws) ≡ Some w → (find p ws ≡ Some w → IsThere ws w)
      → IsThere (r ∷ ws) w
  on true is more = inl (let e : r ≡ w = cc (is) in e)
  on false is more = inr (more is)

first_or : {A : Type 0} (P : A → Type 0) (b : Bool) (x y w : A) → (if b then Some x else Some y) ≡ Some w
    → (x ≡ w → P w) → (y ≡ w → P w) → P w
first_or P true x y w is one two = one (cc (is))
first_or P false x y w is one two = two (cc (is))

pub lowest_there : (ws : List Window) (w : Window) → lowest ws ≡ Some w → IsThere ws w
lowest_there [] w is = absurd (cc (is))
lowest_there (r ∷ ws) w is = on (lowest ws) refl is (lowest_there ws w) where
  on : (o : Option Window) → lowest ws ≡ o → lower r o ≡ Some w → (lowest ws ≡ Some w → IsThere ws w)
      → IsThere (r ∷ ws) w
  on None at is more = inl (let e : r ≡ w = cc (is) in e)
  on (Some v) at is more = first_or (IsThere (r ∷ ws)) (nat_lt v.number r.number) v r w is
      (λ e. inr (more (at ∙ ap Some e))) (λ e. inl e)

highest_there : (ws : List Window) (w : Window) → highest ws ≡ Some w → IsThere ws w
highest_there [] w is = absurd (cc (is))
highest_there (r ∷ ws) w is = on (highest ws) refl is (highest_there ws w) where
  on : (o : Option Window) → highest ws ≡ o → higher r o ≡ Some w → (highest ws ≡ Some w → IsThere ws w)
      → IsThere (r ∷ ws) w
  on None at is more = inl (let e : r ≡ w = cc (is) in e)
  on (Some v) at is more = first_or (IsThere (r ∷ ws)) (nat_lt r.number v.number) v r w is
      (λ e. inr (more (at ∙ ap Some e))) (λ e. inl e)

filter_there : (p : Window → Bool) (ws : List Window) (w : Window) → IsThere (filter p ws) w → IsThere ws w
filter_there p [] w some = some
filter_there p (r ∷ ws) w some = on (p r) some (filter_there p ws w) where
  on : (b : Bool) → IsThere (if b then r ∷ filter p ws else filter p ws) w → (IsThere (filter p ws) w → IsThere ws w)
      → IsThere (r ∷ ws) w
  on true some more = ⊎_elim (λ (here : r ≡ w). inl here) (λ later. inr (more later)) some
  on false some more = inr (more some)

by_or : {R : Type 0} (a b : Option Window) (w : Window) → option_or a b ≡ Some w → (a ≡ Some w → R) → (b ≡ Some w → R)
    → R
by_or None b w is one two = two is
by_or (Some v) b w is one two = one is

pub number_there : (ws : List Window) (o : Option ℕ) (w : Window) → option_and_then (with_number ws) o ≡ Some w
    → IsThere ws w
number_there ws None w is = absurd (cc (is))
number_there ws (Some n) w is = found_there (λ (v : Window). v.number == n) ws w is

pub named_there : (ws : List Window) (word : List ℕ) (w : Window) → window_named ws word ≡ Some w → IsThere ws w
named_there ws word w is = by_or (option_and_then (with_number ws) (spelled word)) _ w is
    (λ at. number_there ws (spelled word) w at) (λ at. filter_there _ ws w (lowest_there _ w at))

pub after_there : (ws : List Window) (o : Option Window) (w : Window) → window_after ws o ≡ Some w → IsThere ws w
after_there ws None w is = lowest_there ws w is
after_there ws (Some v) w is = by_or (lowest (filter (λ (x : Window). nat_lt v.number x.number) ws)) (lowest ws) w is
    (λ at. filter_there _ ws w (lowest_there _ w at)) (λ at. lowest_there ws w at)

pub before_there : (ws : List Window) (o : Option Window) (w : Window) → window_before ws o ≡ Some w → IsThere ws w
before_there ws None w is = highest_there ws w is
before_there ws (Some v) w is = by_or (highest (filter (λ (x : Window). nat_lt x.number v.number) ws)) (highest ws) w is
    (λ at. filter_there _ ws w (highest_there _ w at)) (λ at. highest_there ws w at)

pub at_there : (t : Tables) (o : Option ℕ) (w : Window) → option_and_then (window_at t) o ≡ Some w → IsThere t.windows w
at_there t None w is = absurd (cc (is))
at_there t (Some n) w is = some_row serial_of t.windows n w is

-- ---- what a page shows

-- a region shows one of these windows, or nothing
abbrev pub Shows : (ℕ → Bool) → Shown → Type 0
Shows has s = MatchOption s.window (Unit {0}) (λ n. has n ≡ true)

-- the page shows only open windows and those that the client's page showed
abbrev pub ShowsNoOther : Tables → Client → Arrangement → Type 0
ShowsNoOther t c l = (has : ℕ → Bool) → ((w : Window) → IsThere t.windows w → has w.serial ≡ true)
    → AllByRecursion (Shows has) c.layout.shown → AllByRecursion (Shows has) l.shown

-- the window that a region shows
abbrev pub at_place : List Shown → ℕ → Option ℕ
at_place shown n = option_and_then (λ (s : Shown). s.window) (slice_get shown n)

insert_place : (shown : List Shown) (n w : ℕ) → at_place (take (suc n) shown ++ empty ∷ drop (suc n) shown) n ≡ Some w
    → at_place shown n ≡ Some w
insert_place [] zero w is = absurd (cc (is))
insert_place [] (suc n) w is = is
insert_place (s ∷ shown) zero w is = is
insert_place (s ∷ shown) (suc n) w is = insert_place shown n w is

pub split_place : (shown : List Shown) (n w : ℕ) → at_place (insert shown (n + 1) empty) n ≡ Some w
    → at_place shown n ≡ Some w
split_place shown n w is = let e : n + 1 ≡ suc n = omega arith in insert_place shown n w
    (ap (λ m. at_place (insert shown m empty) n) (sym e) ∙ is)

pub alone_place : (o : Option Shown) (w : ℕ) → (unwrap_or o empty).window ≡ Some w
    → option_and_then (λ (s : Shown). s.window) o ≡ Some w
alone_place None w is = is
alone_place (Some s) w is = is

pub scrolled_place : (shown : List Shown) (n back w : ℕ)
    → at_place (slice_set shown n (record (unwrap_or (slice_get shown n) empty) { back = back })) n ≡ Some w
    → at_place shown n ≡ Some w
scrolled_place [] n back w is = is
scrolled_place (s ∷ shown) zero back w is = is
scrolled_place (s ∷ shown) (suc n) back w is = scrolled_place shown n back w is
