-- The windows with the lowest and the highest number among others.
use Rattle.windows.proofs.Vocabulary.{◌≡◌, ℕ, suc, ◌-◌, ◌<◌, ◌≤◌, Bool, true, false, List, [], ◌∷◌, Option, Some, None}
use Rattle.windows.proofs.Vocabulary.{length, filter, get_or, drop, refl, ap, sym, subst, ◌∙◌, arith, if◌then◌else◌}
use Rattle.windows.proofs.Vocabulary.{nat_lt, ◌==◌, not, ◌||◌, ◌&&◌, find, option_copied, list_any, range_with_len}
use Rattle.windows.proofs.Vocabulary.{option_or, option_map, option_map_or, option_and_then, WINDOWS}
use Rattle.windows.proofs.Vocabulary.{Window, All, Above, Below, Titled, Lowest, Highest, is_above, is_among, nearest}
use Rattle.windows.proofs.Vocabulary.{numbered, taken_by_other, first_free, number, WindowStands, StandFor, is_taken}
use Rattle.std.specs.Borrow.{Bor}
use Rattle.std.specs.Str.{bytes_eq}
use Rattle.std.proofs.Math.Seq.{drop-cons}
use Rattle.windows_model.specs.Table as model
use Rattle.windows_model.specs.Naming as naming
use Rattle.windows_model.specs.Naming.{lower, higher, lowest, highest, with_number, window_after, window_before}
use Rattle.windows_model.specs.Naming.{free_number}
use Rattle.windows_model.specs.Matched.{BothOrNone}
use Rattle.windows_model.proofs.Matching.{filter_match, find_match}
use Rattle.windows.specs.declared.among.Among.{Among}
use Rattle.windows.specs.declared.among.End.{End}
use Rattle.windows.specs.Among.{nearer, has_number}
use Rattle.windows.specs.Standing as standing

-- ---- one window more, from the last window to the first

one_more : (rows : List Window) (place : ℕ) (row : Window) → 0 < place → place ≤ length rows
    → row ≡ get_or rows (place - 1) row → drop (place - 1) rows ≡ row ∷ drop place rows
one_more rows place row some within at =
    let lt : place - 1 < length rows = omega arith in
    let next : suc (place - 1) ≡ place = omega arith in
    drop-cons rows (place - 1) row lt ∙ ap (λ n. get_or rows (place - 1) row ∷ drop n rows) next
    ∙ ap (λ r. r ∷ drop place rows) (sym at)

module _ (end : End) (among : Among) (rows : List Window) (place : ℕ) (row : Window) (some : 0 < place)
    (within : place ≤ length rows) (at : row ≡ get_or rows (place - 1) row) where
  abbrev past : Option Window
  past = nearest end (filter (is_among among) (drop place rows))

-- ---- in both tables: the definitions' and the code's

both_by : (b : Bool) (o : Option model.Window) (p : Option Window) (u : Option model.Window) (v : Option Window)
    → BothOrNone WindowStands o p → BothOrNone WindowStands u v
    → BothOrNone WindowStands (if b then o else u) (if b then p else v)
both_by true o p u v m n = m
both_by false o p u v m n = n

lower_both : (x : model.Window) (y : Window) → WindowStands x y → (o : Option model.Window) (p : Option Window)
    → BothOrNone WindowStands o p → BothOrNone WindowStands (lower x o) (nearer Lowest y p)
lower_both x y m None None n = m
lower_both x y m (Some v) (Some u) n =
    let same : nat_lt v.number x.number ≡ nat_lt u.number y.number = cc (m.number_is, n.number_is) in
    subst (λ b. BothOrNone WindowStands (lower x (Some v)) (if b then Some u else Some y)) same
    (both_by (nat_lt v.number x.number) (Some v) (Some u) (Some x) (Some y) n m)
lower_both x y m None (Some u) n = absurd n
lower_both x y m (Some v) None n = absurd n

higher_both : (x : model.Window) (y : Window) → WindowStands x y → (o : Option model.Window) (p : Option Window)
    → BothOrNone WindowStands o p → BothOrNone WindowStands (higher x o) (nearer Highest y p)
higher_both x y m None None n = m
higher_both x y m (Some v) (Some u) n =
    let same : nat_lt x.number v.number ≡ nat_lt y.number u.number = cc (m.number_is, n.number_is) in
    subst (λ b. BothOrNone WindowStands (higher x (Some v)) (if b then Some u else Some y)) same
    (both_by (nat_lt x.number v.number) (Some v) (Some u) (Some x) (Some y) n m)
higher_both x y m None (Some u) n = absurd n
higher_both x y m (Some v) None n = absurd n

pub lowest_both : (rows : List model.Window) (ws : List Window) → StandFor rows ws
    → BothOrNone WindowStands (lowest rows) (nearest Lowest ws)
lowest_both [] [] m = tt
lowest_both (x ∷ xs) (y ∷ ys) m = lower_both x y m.0 (lowest xs) (nearest Lowest ys) (lowest_both xs ys m.1)
lowest_both [] (y ∷ ys) m = absurd m
lowest_both (x ∷ xs) [] m = absurd m

pub highest_both : (rows : List model.Window) (ws : List Window) → StandFor rows ws
    → BothOrNone WindowStands (highest rows) (nearest Highest ws)
highest_both [] [] m = tt
highest_both (x ∷ xs) (y ∷ ys) m = higher_both x y m.0 (highest xs) (nearest Highest ys) (highest_both xs ys m.1)
highest_both [] (y ∷ ys) m = absurd m
highest_both (x ∷ xs) [] m = absurd m

-- ---- among others

every_one : (ws : List Window) → filter (is_among All) ws ≡ ws
every_one [] = refl
every_one (w ∷ ws) = ap (λ vs. w ∷ vs) (every_one ws)

pub lowest_of_all : (rows : List model.Window) (ws : List Window) → StandFor rows ws
    → BothOrNone WindowStands (lowest rows) (nearest Lowest (filter (is_among All) ws))
lowest_of_all rows ws m = subst (λ vs. BothOrNone WindowStands (lowest rows) (nearest Lowest vs)) (sym (every_one ws))
    (lowest_both rows ws m)

pub highest_of_all : (rows : List model.Window) (ws : List Window) → StandFor rows ws
    → BothOrNone WindowStands (highest rows) (nearest Highest (filter (is_among All) ws))
highest_of_all rows ws m = subst (λ vs. BothOrNone WindowStands (highest rows) (nearest Highest vs))
    (sym (every_one ws)) (highest_both rows ws m)

lowest_above : (n : ℕ) (rows : List model.Window) (ws : List Window) → StandFor rows ws
    → BothOrNone WindowStands (lowest (filter (λ v. nat_lt n v.number) rows))
    (nearest Lowest (filter (is_among (Above (Some n))) ws))
lowest_above n rows ws m =
    lowest_both _ _
    (filter_match WindowStands (λ (v : model.Window). nat_lt n v.number) (is_among (Above (Some n)))
    (λ a b st. ap (λ k. nat_lt n k) st.number_is) rows ws m)

highest_below : (n : ℕ) (rows : List model.Window) (ws : List Window) → StandFor rows ws
    → BothOrNone WindowStands (highest (filter (λ v. nat_lt v.number n) rows))
    (nearest Highest (filter (is_among (Below (Some n))) ws))
highest_below n rows ws m =
    highest_both _ _
    (filter_match WindowStands (λ (v : model.Window). nat_lt v.number n) (is_among (Below (Some n)))
    (λ a b st. ap (λ k. nat_lt k n) st.number_is) rows ws m)

pub lowest_titled : (title : Bor (List ℕ)) (rows : List model.Window) (ws : List Window) → StandFor rows ws
    → BothOrNone WindowStands (lowest (filter (λ v. bytes_eq v.title title.now) rows))
    (nearest Lowest (filter (is_among (Titled title)) ws))
lowest_titled title rows ws m =
    lowest_both _ _
    (filter_match WindowStands (λ (v : model.Window). bytes_eq v.title title.now) (is_among (Titled title))
    (λ a b st. ap (λ k. bytes_eq k title.now) st.title_is) rows ws m)

none_above : (ws : List Window) → filter (is_among (Above None)) ws ≡ []
none_above [] = refl
none_above (w ∷ ws) = none_above ws

none_below : (ws : List Window) → filter (is_among (Below None)) ws ≡ []
none_below [] = refl
none_below (w ∷ ws) = none_below ws

pub both_or : (o u : Option model.Window) (p v : Option Window) → BothOrNone WindowStands o p
    → BothOrNone WindowStands u v → BothOrNone WindowStands (option_or o u) (option_or p v)
both_or None u None v m n = n
both_or (Some a) u (Some b) v m n = m
both_or None u (Some b) v m n = absurd m
both_or (Some a) u None v m n = absurd m

pub after_both : (from : Option ℕ) (rows : List model.Window) (ws : List Window) (w : Option model.Window)
    → StandFor rows ws → option_map number w ≡ from
    → BothOrNone WindowStands (window_after rows w)
    (option_or (nearest Lowest (filter (is_among (Above from)) ws)) (nearest Lowest (filter (is_among All) ws)))
after_both None rows ws None m is =
    subst
    (λ vs. BothOrNone WindowStands (lowest rows)
    (option_or (nearest Lowest vs) (nearest Lowest (filter (is_among All) ws)))) (sym (none_above ws))
    (lowest_of_all rows ws m)
after_both (Some n) rows ws (Some w) m is =
    let here : n ≡ w.number = cc (is) in
    subst
    (λ k. BothOrNone WindowStands (window_after rows (Some w))
    (option_or (nearest Lowest (filter (is_among (Above (Some k))) ws))
    (nearest Lowest (filter (is_among All) ws)))) (sym here)
    (both_or _ _ _ _ (lowest_above w.number rows ws m) (lowest_of_all rows ws m))
after_both None rows ws (Some w) m is = absurd (cc (is))
after_both (Some n) rows ws None m is = absurd (cc (is))

pub before_both : (from : Option ℕ) (rows : List model.Window) (ws : List Window) (w : Option model.Window)
    → StandFor rows ws → option_map number w ≡ from
    → BothOrNone WindowStands (window_before rows w)
    (option_or (nearest Highest (filter (is_among (Below from)) ws)) (nearest Highest (filter (is_among All) ws)))
before_both None rows ws None m is =
    subst
    (λ vs. BothOrNone WindowStands (highest rows)
    (option_or (nearest Highest vs) (nearest Highest (filter (is_among All) ws)))) (sym (none_below ws))
    (highest_of_all rows ws m)
before_both (Some n) rows ws (Some w) m is =
    let here : n ≡ w.number = cc (is) in
    subst
    (λ k. BothOrNone WindowStands (window_before rows (Some w))
    (option_or (nearest Highest (filter (is_among (Below (Some k))) ws))
    (nearest Highest (filter (is_among All) ws)))) (sym here)
    (both_or _ _ _ _ (highest_below w.number rows ws m) (highest_of_all rows ws m))
before_both None rows ws (Some w) m is = absurd (cc (is))
before_both (Some n) rows ws None m is = absurd (cc (is))

-- the window that was found in a slice of the table
pub seen : (f : List Window → Option Window) (ws slice : List Window) (o : Option model.Window) (r : Option Window)
    → r ≡ f slice → slice ≡ ws → BothOrNone WindowStands o (f ws) → BothOrNone WindowStands o r
seen f ws slice o r is view both = subst (λ p. BothOrNone WindowStands o p) (sym (is ∙ ap f view)) both

-- the copy of the first value if there is one, else of the second
copied_or : {A : Type 0} (a b : Option (Bor A))
    → option_copied (option_or a b) ≡ option_or (option_copied a) (option_copied b)
copied_or None b = refl
copied_or (Some a) b = refl

-- ---- by their numbers

pub numbered_both : (n : ℕ) (rows : List model.Window) (ws : List Window) → StandFor rows ws
    → BothOrNone WindowStands (with_number rows n) (numbered ws n)
numbered_both n rows ws m = find_match WindowStands (naming.has_number n) (has_number n)
    (λ a b st. ap (λ k. k == n) st.number_is) rows ws m

pub spelled_both : (o : Option ℕ) (rows : List model.Window) (ws : List Window) → StandFor rows ws
    → BothOrNone WindowStands (option_and_then (with_number rows) o) (option_and_then (numbered ws) o)
spelled_both None rows ws m = tt
spelled_both (Some n) rows ws m = numbered_both n rows ws m

taken_by : (s : ℕ) (o : Option model.Window) (p : Option Window) → BothOrNone WindowStands o p
    → option_map_or (λ (v : Window). not (v.serial == s)) p false ≡ option_map_or
    (λ (v : model.Window). not (v.serial == s)) o false
taken_by s None None m = refl
taken_by s (Some a) (Some b) m = ap (λ k. not (k == s)) m.serial_is
taken_by s None (Some b) m = absurd m
taken_by s (Some a) None m = absurd m

pub taken_both : (s n : ℕ) (rows : List model.Window) (ws : List Window) (w : model.Window) → StandFor rows ws
    → w.serial ≡ s → taken_by_other ws s n ≡ is_taken rows w n
taken_both s n rows ws w m is =
    taken_by s (with_number rows n) (numbered ws n) (numbered_both n rows ws m)
    ∙ ap (λ k. option_map_or (λ (v : model.Window). not (v.serial == k)) (with_number rows n) false) (sym is)

any_both : (n : ℕ) (rows : List model.Window) (ws : List Window) → StandFor rows ws
    → list_any (has_number n) ws ≡ list_any (naming.has_number n) rows
any_both n [] [] m = refl
any_both n (x ∷ xs) (y ∷ ys) m =
    let first : (y.number == n) ≡ (x.number == n) = ap (λ k. k == n) m.0.number_is in
    let rest = any_both n xs ys m.1 in
    ap (λ b. b || list_any (has_number n) ys) first ∙ ap (λ b. (x.number == n) || b) rest
any_both n [] (y ∷ ys) m = absurd m
any_both n (x ∷ xs) [] m = absurd m

find_same : (p q : ℕ → Bool) → ((n : ℕ) → p n ≡ q n) → (ns : List ℕ) → find p ns ≡ find q ns
find_same p q same [] = refl
find_same p q same (n ∷ ns) = ap (λ b. if b then Some n else find p ns) (same n)
    ∙ ap (λ (o : Option ℕ). if q n then Some n else o) (find_same p q same ns)

pub free_both : (rows : List model.Window) (ws : List Window) → StandFor rows ws → first_free ws ≡ free_number rows
free_both rows ws m = find_same (λ n. not (list_any (has_number n) ws)) (λ n. not (list_any (naming.has_number n) rows))
    (λ n. ap not (any_both n rows ws m)) (range_with_len 0 WINDOWS)

pub or_found : {A : Type 0} (a b r : Option (Bor A)) (p q : Option A) → r ≡ option_or a b → option_copied a ≡ p
    → option_copied b ≡ q → option_copied r ≡ option_or p q
or_found a b r p q is first second = ap option_copied is ∙ copied_or a b ∙ ap (λ x. option_or x (option_copied b)) first
    ∙ ap (λ y. option_or p y) second

-- ---- serials

pub above_both : (s : ℕ) (rows : List model.Window) (ws : List Window) → StandFor rows ws
    → is_above s ws ≡ standing.is_above s rows
above_both s [] [] m = refl
above_both s (x ∷ xs) (y ∷ ys) m =
    ap (λ n. nat_lt n s && is_above s ys) m.0.serial_is ∙ ap (λ b. nat_lt x.serial s && b) (above_both s xs ys m.1)
above_both s [] (y ∷ ys) m = absurd m
above_both s (x ∷ xs) [] m = absurd m
