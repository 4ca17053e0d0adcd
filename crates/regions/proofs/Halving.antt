-- A split halves one box.
use Rattle.std.proofs.Common.{◌≡◌, ℕ, ◌+◌, ◌-◌, ◌<◌, ◌≤◌, List, ◌++◌, length, take, drop, get_or, append_assoc, sym, ap}
use Rattle.std.proofs.Common.{◌∙◌, arith, inl, inr}
use Rattle.std.proofs.lemmas.List.{append-nil, take-append-le, drop-append-le, get_or_append_left, get_or-append-add}
use Rattle.std.proofs.lemmas.List.{get_or_default}
use Rattle.std.proofs.Math.Seq.{take-append-add, drop-append-add}
use Rattle.std.proofs.lemmas.Bool.{cases_lt, lt-ltb, le-ltb}
use Rattle.regions.specs.declared.rect.Rect.{Rect}
use Rattle.regions.specs.declared.node.Way.{Way}
use Rattle.regions.specs.declared.node.Way.TheVariants.{Below, Right}
use Rattle.regions.specs.Shapes.{Shape, region, split, upper, lower, left, right, boxes, regions, halves, split_at}
use Rattle.regions.proofs.Counting.{length_boxes}

-- the list, with what f makes of its n-th item in the place of that item
abbrev edited : (Rect → List Rect) → ℕ → Rect → List Rect → List Rect
edited f n d xs = take n xs ++ (f (get_or xs n d) ++ drop (n + 1) xs)

edited_first : (f : Rect → List Rect) (n : ℕ) (d e : Rect) (xs ys : List Rect) → n < length xs
    → edited f n e xs ++ ys ≡ edited f n d (xs ++ ys)
edited_first f n d e xs ys lt =
    let here : get_or (xs ++ ys) n d ≡ get_or xs n e = get_or_append_left xs ys d n lt ∙ get_or_default xs n d e lt in
    let front : take n (xs ++ ys) ≡ take n xs = take-append-le n xs ys (omega arith) in
    let back : drop (n + 1) (xs ++ ys) ≡ drop (n + 1) xs ++ ys = drop-append-le (n + 1) xs ys (omega arith) in
    rw (here, front, back)
    (append_assoc (take n xs) (f (get_or xs n e) ++ drop (n + 1) xs) ys
    ∙ ap (λ (x : List Rect). take n xs ++ x) (append_assoc (f (get_or xs n e)) (drop (n + 1) xs) ys))

edited_second : (f : Rect → List Rect) (k : ℕ) (d e : Rect) (xs ys : List Rect) → k < length ys
    → xs ++ edited f k e ys ≡ edited f (length xs + k) d (xs ++ ys)
edited_second f k d e xs ys lt =
    let here : get_or (xs ++ ys) (length xs + k) d ≡ get_or ys k e = get_or-append-add xs ys k d
    ∙ get_or_default ys k d e lt in
    let front : take (length xs + k) (xs ++ ys) ≡ xs ++ take k ys = take-append-add xs ys k in
    let sum : (length xs + k) + 1 ≡ length xs + (k + 1) = omega arith in
    let back : drop ((length xs + k) + 1) (xs ++ ys) ≡ drop (k + 1) ys = ap (λ (i : ℕ). drop i (xs ++ ys)) sum
    ∙ drop-append-add xs ys (k + 1) in
    rw (here, front, back) (sym (append_assoc xs (take k ys) (f (get_or ys k e) ++ drop (k + 1) ys)))

in_first : (way : Way) (a b : Shape) (n : ℕ) (d p q : Rect) → n < regions a
    → boxes (split_at way n a) p ≡ edited (boxes (halves way)) n p (boxes a p)
    → boxes (split_at way n a) p ++ boxes b q ≡ edited (boxes (halves way)) n d (boxes a p ++ boxes b q)
in_first way a b n d p q lt h =
    ap (λ (x : List Rect). x ++ boxes b q) h
    ∙ edited_first (boxes (halves way)) n d p (boxes a p) (boxes b q) (omega (arith, lt, length_boxes a p))

in_second : (way : Way) (a b : Shape) (n : ℕ) (d p q : Rect) → regions a ≤ n → n < regions a + regions b
    → boxes (split_at way (n - regions a) b) q ≡ edited (boxes (halves way)) (n - regions a) q (boxes b q)
    → boxes a p ++ boxes (split_at way (n - regions a) b) q ≡ edited (boxes (halves way)) n d (boxes a p ++ boxes b q)
in_second way a b n d p q le lt h =
    let k = n - regions a in
    let place : length (boxes a p) + k ≡ n = omega (arith, le, length_boxes a p) in
    ap (λ (x : List Rect). boxes a p ++ x) h
    ∙ edited_second (boxes (halves way)) k d q (boxes a p) (boxes b q) (omega (arith, le, lt, length_boxes b q))
    ∙ ap (λ (i : ℕ). edited (boxes (halves way)) i d (boxes a p ++ boxes b q)) place

pub halves_one_box : (way : Way) (s : Shape) (n : ℕ) (r : Rect) → n < regions s
    → boxes (split_at way n s) r ≡ edited (boxes (halves way)) n r (boxes s r)
halves_one_box way region n r lt = let first : n ≡ 0 = omega arith in rw first (sym (append-nil (boxes (halves way) r)))
halves_one_box way (split Below a b) n r lt = elim (cases_lt n (regions a)) [
  | inl first ↦ rw (lt-ltb n (regions a) first)
      (in_first way a b n r (upper r) (lower r) first (halves_one_box way a n (upper r) first))
  | inr second ↦ rw (le-ltb n (regions a) second)
      (in_second way a b n r (upper r) (lower r) second lt
      (halves_one_box way b (n - regions a) (lower r) (omega (arith, lt, second))))
]
halves_one_box way (split Right a b) n r lt = elim (cases_lt n (regions a)) [
  | inl first ↦ rw (lt-ltb n (regions a) first)
      (in_first way a b n r (left r) (right r) first (halves_one_box way a n (left r) first))
  | inr second ↦ rw (le-ltb n (regions a) second)
      (in_second way a b n r (left r) (right r) second lt
      (halves_one_box way b (n - regions a) (right r) (omega (arith, lt, second))))
]
