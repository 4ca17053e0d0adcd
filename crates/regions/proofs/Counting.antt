-- A shape has as many boxes as regions.
use Rattle.std.proofs.Common.{◌≡◌, ◌⊎◌, ℕ, ◌+◌, ◌-◌, ◌<◌, true, false, length, refl, arith, inl, inr, length-append}
use Rattle.std.proofs.lemmas.Bool.{cases_lt, lt-ltb, le-ltb}
use Rattle.regions.specs.declared.rect.Rect.{Rect}
use Rattle.regions.specs.declared.node.Way.{Way}
use Rattle.regions.specs.declared.node.Way.TheVariants.{Below, Right}
use Rattle.regions.specs.Shapes.{Shape, region, split, upper, lower, left, right, boxes, regions, split_at, without}
use Rattle.regions.specs.Shapes.{after, is_region}

pub some_region : (s : Shape) → 0 < regions s
some_region region = omega arith
some_region (split w a b) = omega (arith, some_region a)

pub regions_split : (way : Way) (n : ℕ) (s : Shape) → regions (split_at way n s) ≡ regions s + 1
regions_split way n region = refl
regions_split way n (split w a b) = elim (cases_lt n (regions a)) [
  | inl lt ↦ rw (lt-ltb n (regions a) lt) (omega (arith, regions_split way n a))
  | inr le ↦ rw (le-ltb n (regions a) le) (omega (arith, regions_split way (n - regions a) b))
]

pub which : (s : Shape) → ((is_region s ≡ true) × (regions s ≡ 1)) ⊎ ((is_region s ≡ false) × (1 < regions s))
which region = inl (refl, refl)
which (split w a b) = inr (refl, omega (arith, some_region a, some_region b))

pub regions_without : (s : Shape) (n : ℕ) → n < regions s → 1 < regions s → (regions (without n s) + 1 ≡ regions s)
    × (after n s < regions (without n s))
regions_without region n lt more = absurd (omega arith)
regions_without (split w a b) n lt more = elim (cases_lt n (regions a)) [
  | inl first ↦ rw (lt-ltb n (regions a) first) (elim (which a) [
    | inl one ↦ rw one.0 (omega (arith, one.1), some_region b)
    | inr two ↦ let h = regions_without a n first two.1 in rw two.0 (omega (arith, h.0), omega (arith, h.1))
  ])
  | inr second ↦ rw (le-ltb n (regions a) second) (elim (which b) [
    | inl one ↦ rw one.0 (omega (arith, one.1), some_region a)
    | inr two ↦ let h = regions_without b (n - regions a) (omega (arith, lt)) two.1 in rw two.0
        (omega (arith, h.0), omega (arith, h.1))
  ])
]

-- a box for each region
pub length_boxes : (s : Shape) (r : Rect) → length (boxes s r) ≡ regions s
length_boxes region r = refl
length_boxes (split Below a b) r = omega
    (arith, length-append (boxes a (upper r)) (boxes b (lower r)), length_boxes a (upper r), length_boxes b (lower r))
length_boxes (split Right a b) r = omega
    (arith, length-append (boxes a (left r)) (boxes b (right r)), length_boxes a (left r), length_boxes b (right r))
