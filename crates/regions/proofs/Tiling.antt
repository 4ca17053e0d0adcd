-- The parts of a page cover each place once.
use Rattle.std.proofs.Common.{◌≡◌, ℕ, ◌+◌, ◌-◌, ◌/◌, ◌<◌, Bool, true, false, ◌&&◌, ltb, le-leb, List, [], ◌∷◌, ◌++◌}
use Rattle.std.proofs.Common.{map, refl, sym, ap, subst, ◌∙◌, arith}
use Rattle.std.proofs.lemmas.Bool.Decides.{nat_tests}
use Rattle.std.proofs.lemmas.Bool.{ltb-true}
use Rattle.regions.specs.declared.rect.Rect.{Rect}
use Rattle.regions.specs.declared.node.Way.TheVariants.{Below, Right}
use Rattle.regions.specs.Shapes.{Shape, region, split, upper, lower, left, right, boxes, separators, fits}
use Rattle.regions.specs.Pages.{box_of, status_of, has_room, inner, caption, parts, among, has, one_if, times}
use Rattle.regions.specs.Pages.{TilesPage}
use Rattle.regions.proofs.Room.{both_true, wide, tall, room_fits}

times_append : (xs ys : List Rect) (l c : ℕ) → times (xs ++ ys) l c ≡ times xs l c + times ys l c
times_append [] ys l c = omega arith
times_append (x ∷ xs) ys l c = omega (arith, times_append xs ys l c)

-- counting numbers in two parts, one after the other
among_parts : (a m n x : ℕ) → one_if (among a (m + n) x) ≡ one_if (among a m x) + one_if (among (a + m) n x)
among_parts a m n x = grind (arith, nat_tests)

and_true : (b : Bool) → (b && true) ≡ b
and_true true = refl
and_true false = refl

and_false : (b : Bool) → (b && false) ≡ false
and_false true = refl
and_false false = refl

rows_join : (a m n x : ℕ) (k : Bool)
    → one_if (among a (m + n) x && k) ≡ one_if (among a m x && k) + one_if (among (a + m) n x && k)
rows_join a m n x true = rw (and_true (among a (m + n) x), and_true (among a m x), and_true (among (a + m) n x))
    (among_parts a m n x)
rows_join a m n x false = rw (and_false (among a (m + n) x), and_false (among a m x), and_false (among (a + m) n x))
    refl

columns_join : (a m n x : ℕ) (k : Bool)
    → one_if (k && among a (m + n) x) ≡ one_if (k && among a m x) + one_if (k && among (a + m) n x)
columns_join a m n x true = among_parts a m n x
columns_join a m n x false = refl

-- a place of r lies in one of two parts of its rows
by_rows : (r : Rect) (m n l c : ℕ) → m + n ≡ r.rows
    → one_if (has r l c) ≡ one_if (has (record r { rows = m }) l c) + one_if
    (has (record r { line = r.line + m; rows = n }) l c)
by_rows r m n l c e = rw (← e) (rows_join r.line m n l (among r.column r.columns c))

by_columns : (r : Rect) (m n l c : ℕ) → m + n ≡ r.columns
    → one_if (has r l c) ≡ one_if (has (record r { columns = m }) l c) + one_if
    (has (record r { column = r.column + m; columns = n }) l c)
by_columns r m n l c e = rw (← e) (columns_join r.column m n c (among r.line r.rows l))

map_append : (f : Rect → Rect) (xs ys : List Rect) → map f (xs ++ ys) ≡ map f xs ++ map f ys
map_append f [] ys = refl
map_append f (x ∷ xs) ys = ap (λ (rs : List Rect). f x ∷ rs) (map_append f xs ys)

times_map : (f : Rect → Rect) (xs ys : List Rect) (l c : ℕ)
    → times (map f (xs ++ ys)) l c ≡ times (map f xs) l c + times (map f ys) l c
times_map f xs ys l c = ap (λ (rs : List Rect). times rs l c) (map_append f xs ys)
    ∙ times_append (map f xs) (map f ys) l c

abbrev total : Shape → Rect → ℕ → ℕ → ℕ
total s r l c = times (map inner (boxes s r)) l c + (times (map caption (boxes s r)) l c + times (separators s r) l c)

-- a rectangle's regions, captions and separators cover its places once
covers : (s : Shape) (r : Rect) (l c : ℕ) → fits s r.rows r.columns ≡ true → total s r l c ≡ one_if (has r l c)
covers region r l c h =
    let tall : 1 < r.rows = ltb-true _ _ (both_true (ltb 1 r.rows) (ltb 1 r.columns) h).0 in
    let e : (r.rows - 1) + 1 ≡ r.rows = omega arith in
    omega (arith, by_rows r (r.rows - 1) 1 l c e)
covers (split Below a b) r l c h =
    let t = both_true (fits a ((r.rows + 1) / 2) r.columns) (fits b (r.rows / 2) r.columns) h in
    let e : (r.rows + 1) / 2 + r.rows / 2 ≡ r.rows = omega arith in
    omega (
      arith,
      covers a (upper r) l c t.0,
      covers b (lower r) l c t.1,
      by_rows r ((r.rows + 1) / 2) (r.rows / 2) l c e,
      times_map inner (boxes a (upper r)) (boxes b (lower r)) l c,
      times_map caption (boxes a (upper r)) (boxes b (lower r)) l c,
      times_append (separators a (upper r)) (separators b (lower r)) l c,
    )
covers (split Right a b) r l c h =
    let t = both_true (fits a r.rows ((r.columns - 1) / 2)) (fits b r.rows (r.columns / 2)) h in
    let wide_enough : 1 < r.columns = wide (split Right a b) r.rows r.columns h in
    let e : (r.columns - 1) / 2 + (1 + r.columns / 2) ≡ r.columns = omega arith in
    let rest : Rect = record r { column = r.column + (r.columns - 1) / 2; columns = 1 + r.columns / 2 } in
    omega (
      arith,
      covers a (left r) l c t.0,
      covers b (right r) l c t.1,
      by_columns r ((r.columns - 1) / 2) (1 + r.columns / 2) l c e,
      by_columns rest 1 (r.columns / 2) l c refl,
      times_map inner (boxes a (left r)) (boxes b (right r)) l c,
      times_map caption (boxes a (left r)) (boxes b (right r)) l c,
      times_append (separators a (left r)) (separators b (right r)) l c,
    )

-- a page as a rectangle
abbrev pub page_of : ℕ → ℕ → Rect
page_of rows columns = record { line = 0; column = 0; rows = rows; columns = columns }

from_zero : (n x : ℕ) → among 0 n x ≡ ltb x n
from_zero n x = let all : 0 + n ≡ n = omega arith in rw (le-leb 0 x (omega arith), all) refl

pub page_has : (rows columns l c : ℕ) → has (page_of rows columns) l c ≡ (ltb l rows && ltb c columns)
page_has rows columns l c = rw (from_zero rows l, from_zero columns c) refl

pub page_once : (s : Shape) (rows columns : ℕ) → has_room s rows columns ≡ true
    → TilesPage rows columns
    (parts (boxes s (box_of rows columns)) (separators s (box_of rows columns)) (status_of rows columns))
page_once s rows columns h l c =
    let box = box_of rows columns in
    let bs = boxes s box in
    let f : fits s (rows - 1) columns ≡ true = sym (room_fits s rows columns) ∙ h in
    let high : 1 < rows - 1 = tall s (rows - 1) columns f in
    let e : (rows - 1) + 1 ≡ rows = omega arith in
    let above : 0 + (rows - 1) ≡ rows - 1 = omega arith in
    let joined : one_if (ltb l rows && ltb c columns) ≡ one_if (has box l c) + one_if (has (status_of rows columns) l c)
    =
    ap one_if (sym (page_has rows columns l c))
    ∙ subst
    (λ (n : ℕ). one_if (has (page_of rows columns) l c) ≡ one_if (has box l c) + one_if
    (has (record { line = n; column = 0; rows = 1; columns = columns }) l c)) above
    (by_rows (page_of rows columns) (rows - 1) 1 l c e) in
    omega (
      arith,
      covers s box l c f,
      joined,
      times_append (map inner bs ++ (map caption bs ++ separators s box)) (status_of rows columns ∷ []) l c,
      times_append (map inner bs) (map caption bs ++ separators s box) l c,
      times_append (map caption bs) (separators s box) l c,
    )
