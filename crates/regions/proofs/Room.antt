-- What it implies that each region has room.
use Rattle.std.proofs.Common.{◌≡◌, ℕ, ◌+◌, ◌-◌, ◌/◌, ◌<◌, Bool, true, false, ◌&&◌, ltb, List, [], ◌∷◌, ◌++◌, refl, sym}
use Rattle.std.proofs.Common.{ap, ◌∙◌, arith}
use Rattle.std.specs.List.{list_all}
use Rattle.std.proofs.lemmas.Bool.{ltb-true}
use Rattle.regions.specs.declared.rect.Rect.{Rect}
use Rattle.regions.specs.declared.node.Way.TheVariants.{Below, Right}
use Rattle.regions.specs.Shapes.{Shape, region, split, upper, lower, left, right, boxes, fits}
use Rattle.regions.specs.Pages.{is_roomy, box_of, has_room}

pub both_true : (a b : Bool) → (a && b) ≡ true → (a ≡ true) × (b ≡ true)
both_true true b e = (refl, e)
both_true false b e = absurd cc

-- there are at least two columns
pub wide : (s : Shape) (rows columns : ℕ) → fits s rows columns ≡ true → 1 < columns
wide region rows columns h = ltb-true _ _ (both_true (ltb 1 rows) (ltb 1 columns) h).1
wide (split Below a b) rows columns h = wide a ((rows + 1) / 2) columns
    (both_true (fits a ((rows + 1) / 2) columns) (fits b (rows / 2) columns) h).0
wide (split Right a b) rows columns h = omega (
  arith,
  wide a rows ((columns - 1) / 2)
      (both_true (fits a rows ((columns - 1) / 2)) (fits b rows (columns / 2)) h).0,
)

-- there are at least two rows
pub tall : (s : Shape) (rows columns : ℕ) → fits s rows columns ≡ true → 1 < rows
tall region rows columns h = ltb-true _ _ (both_true (ltb 1 rows) (ltb 1 columns) h).0
tall (split Below a b) rows columns h = omega
    (arith, tall b (rows / 2) columns (both_true (fits a ((rows + 1) / 2) columns) (fits b (rows / 2) columns) h).1)
tall (split Right a b) rows columns h = tall a rows ((columns - 1) / 2)
    (both_true (fits a rows ((columns - 1) / 2)) (fits b rows (columns / 2)) h).0

and_assoc : (a b c : Bool) → ((a && b) && c) ≡ (a && (b && c))
and_assoc true b c = refl
and_assoc false b c = refl

and_true : (a : Bool) → (a && true) ≡ a
and_true true = refl
and_true false = refl

all_append : (xs ys : List Rect) → list_all is_roomy (xs ++ ys) ≡ (list_all is_roomy xs && list_all is_roomy ys)
all_append [] ys = refl
all_append (x ∷ xs) ys = ap (λ (b : Bool). is_roomy x && b) (all_append xs ys)
    ∙ sym (and_assoc (is_roomy x) (list_all is_roomy xs) (list_all is_roomy ys))

-- whether all boxes have room depends on the size alone
pub fits_boxes : (s : Shape) (r : Rect) → list_all is_roomy (boxes s r) ≡ fits s r.rows r.columns
fits_boxes region r = and_true (is_roomy r)
fits_boxes (split Below a b) r = rw
    (all_append (boxes a (upper r)) (boxes b (lower r)), fits_boxes a (upper r), fits_boxes b (lower r)) refl
fits_boxes (split Right a b) r = rw
    (all_append (boxes a (left r)) (boxes b (right r)), fits_boxes a (left r), fits_boxes b (right r)) refl

pub room_fits : (s : Shape) (rows columns : ℕ) → has_room s rows columns ≡ fits s (rows - 1) columns
room_fits s rows columns = fits_boxes s (box_of rows columns)
