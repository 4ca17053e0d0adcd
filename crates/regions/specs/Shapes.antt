-- Shapes of layouts: a region, or two halves (GNU Screen manual, "Split" and "Remove"). Lines and
-- columns count from 0.
use Rattle.std.specs.Prelude.{ℕ, ◌+◌, ◌-◌, ◌/◌, Bool, true, false, ◌&&◌, nat_lt, if◌then◌else◌}
use Rattle.std.specs.Prelude.{List, [], ◌∷◌, ◌++◌, take, drop, get_or}
use Rattle.regions.specs.declared.rect.Rect.{Rect}
use Rattle.regions.specs.declared.node.Way.{Way}
use Rattle.regions.specs.declared.node.Way.TheVariants.{Below, Right}
use Rattle.regions.specs.declared.node.Node.{Node, Region, Split'}

pub data Shape : Type 0 where
  region : Shape
  split : Way → Shape → Shape → Shape

-- the shape of a tree, whose boxes in memory are left out
abbrev pub shape : Node → Shape
shape Region = region
shape (Split' way p a q b) = split way (shape a) (shape b)

-- ---- the halves of a rectangle

-- Of two halves one above the other, the upper has half of the rows, rounded up.
abbrev pub upper : Rect → Rect
upper r = record r { rows = (r.rows + 1) / 2 }

abbrev pub lower : Rect → Rect
lower r = record r { line = r.line + (r.rows + 1) / 2; rows = r.rows / 2 }

-- Two halves side by side have one column between them, over all rows. The left half has half of
-- the other columns, rounded down.
abbrev pub left : Rect → Rect
left r = record r { columns = (r.columns - 1) / 2 }

abbrev pub between : Rect → Rect
between r = record r { column = r.column + (r.columns - 1) / 2; columns = 1 }

abbrev pub right : Rect → Rect
right r = record r { column = r.column + (r.columns - 1) / 2 + 1; columns = r.columns / 2 }

-- the boxes of the regions, in the order of the splits
abbrev pub boxes : Shape → Rect → List Rect
boxes region r = r ∷ []
boxes (split Below a b) r = boxes a (upper r) ++ boxes b (lower r)
boxes (split Right a b) r = boxes a (left r) ++ boxes b (right r)

-- the separators, each before those of its halves
abbrev pub separators : Shape → Rect → List Rect
separators region r = []
separators (split Below a b) r = separators a (upper r) ++ separators b (lower r)
separators (split Right a b) r = between r ∷ (separators a (left r) ++ separators b (right r))

-- whether each box has one row besides its caption, and two columns
abbrev pub fits : Shape → ℕ → ℕ → Bool
fits region rows columns = nat_lt 1 rows && nat_lt 1 columns
fits (split Below a b) rows columns = fits a ((rows + 1) / 2) columns && fits b (rows / 2) columns
fits (split Right a b) rows columns = fits a rows ((columns - 1) / 2) && fits b rows (columns / 2)

-- ---- what changes a shape

abbrev pub regions : Shape → ℕ
regions region = 1
regions (split way a b) = regions a + regions b

abbrev pub is_region : Shape → Bool
is_region region = true
is_region (split way a b) = false

abbrev pub halves : Way → Shape
halves way = split way region region

-- the shape after its n-th region was split
abbrev pub split_at : Way → ℕ → Shape → Shape
split_at way n region = halves way
split_at way n (split w a b) =
    if nat_lt n (regions a) then split w (split_at way n a) b
    else split w a (split_at way (n - regions a) b)

-- the boxes, with two halves in place of the n-th
abbrev pub with_halves : Way → ℕ → Rect → List Rect → List Rect
with_halves way n r bs = take n bs ++ (boxes (halves way) (get_or bs n r) ++ drop (n + 1) bs)

-- the shape without its n-th region, whose sibling has its room
abbrev pub without : ℕ → Shape → Shape
without n region = region
without n (split w a b) =
    if nat_lt n (regions a) then (if is_region a then b else split w (without n a) b)
    else (if is_region b then a else split w a (without (n - regions a) b))

-- the index of the first region of the n-th region's sibling, after the n-th is gone
abbrev pub after : ℕ → Shape → ℕ
after n region = 0
after n (split w a b) =
    if nat_lt n (regions a) then (if is_region a then 0 else after n a)
    else (if is_region b then 0 else regions a + after (n - regions a) b)
