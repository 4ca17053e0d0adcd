-- The rectangles of a page, and the places that they cover.
use Rattle.std.specs.Prelude.{◌≡◌, ℕ, ◌+◌, ◌-◌, Bool, true, ◌&&◌, nat_lt, nat_le, if◌then◌else◌}
use Rattle.std.specs.Prelude.{List, [], ◌∷◌, ◌++◌, map}
use Rattle.std.specs.List.{list_all}
use Rattle.regions.specs.declared.layout.RegionFault.{RegionFault}
use Rattle.regions.specs.declared.layout.RegionFault.TheVariants.{TooSmall, NoMemory}
use Rattle.regions.specs.declared.rect.Rect.{Rect}
use Rattle.regions.specs.declared.rect.Rects.{Rects}
use Rattle.regions.specs.Shapes.{Shape, boxes, separators}

-- the layout's box has all rows but the last, which is the status line
abbrev pub rows_of_box : ℕ → ℕ
rows_of_box rows = rows - 1

abbrev pub box_of : ℕ → ℕ → Rect
box_of rows columns = record { line = 0; column = 0; rows = rows_of_box rows; columns = columns }

abbrev pub status_of : ℕ → ℕ → Rect
status_of rows columns = record { line = rows - 1; column = 0; rows = 1; columns = columns }

-- a region needs one row besides its caption, and two columns
abbrev pub is_roomy : Rect → Bool
is_roomy r = nat_lt 1 r.rows && nat_lt 1 r.columns

abbrev pub has_room : Shape → ℕ → ℕ → Bool
has_room s rows columns = list_all is_roomy (boxes s (box_of rows columns))

-- if each region of one shape has room on a page, so has each region of the other, for every size
-- of page
abbrev pub KeepsRoom : Shape → Shape → Type 0
KeepsRoom old new =
    (rows columns : ℕ) → has_room old rows columns ≡ true → has_room new rows columns ≡ true

-- why there are no rectangles for a page of this size
abbrev pub rects_error : Shape → ℕ → ℕ → RegionFault
rects_error s rows columns = if has_room s rows columns then NoMemory else TooSmall

-- the rectangles of a page that is split like this
pub record IsRects (s : Shape) (focus rows columns : ℕ) (r : Rects) : Type 0 where
  pub boxes_are : r.boxes.items ≡ boxes s (box_of rows columns)
  pub separators_are : r.separators.items ≡ separators s (box_of rows columns)
  pub focus_is : r.focus ≡ focus
  pub status_is : r.status ≡ status_of rows columns

-- the inside of a box: all rows but the last, which is the caption
abbrev pub inner : Rect → Rect
inner r = record r { rows = r.rows - 1 }

abbrev pub caption : Rect → Rect
caption r = record r { line = r.line + (r.rows - 1); rows = 1 }

-- regions, captions, separators and the status line
abbrev pub parts : List Rect → List Rect → Rect → List Rect
parts boxes separators status =
    (map inner boxes ++ (map caption boxes ++ separators)) ++ status ∷ []

-- the parts of a page that is split like this
abbrev pub page_parts : Shape → ℕ → ℕ → List Rect
page_parts s rows columns =
    parts (boxes s (box_of rows columns)) (separators s (box_of rows columns))
    (status_of rows columns)

-- ---- places

-- whether this is one of the n numbers from `first` on
abbrev pub among : ℕ → ℕ → ℕ → Bool
among first n x = nat_le first x && nat_lt x (first + n)

abbrev pub has : Rect → ℕ → ℕ → Bool
has r line column = among r.line r.rows line && among r.column r.columns column

abbrev pub one_if : Bool → ℕ
one_if b = if b then 1 else 0

-- the number of these rectangles in which a place lies
abbrev pub times : List Rect → ℕ → ℕ → ℕ
times [] line column = 0
times (r ∷ rs) line column = one_if (has r line column) + times rs line column

-- These rectangles cover each place of the page once, and no other place.
abbrev pub TilesPage : ℕ → ℕ → List Rect → Type 0
TilesPage rows columns rs =
    (line column : ℕ) → times rs line column ≡ one_if (nat_lt line rows && nat_lt column columns)

-- The boxes with their captions, the separators and the status line cover each place of the page
-- once, and no other place.
abbrev pub RectsTile : ℕ → ℕ → Rects → Type 0
RectsTile rows columns r = TilesPage rows columns (parts r.boxes.items r.separators.items r.status)
