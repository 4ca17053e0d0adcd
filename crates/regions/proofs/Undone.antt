-- A region that was split off is removed without a trace.
use Rattle.std.proofs.Common.{◌≡◌, ℕ, suc, ◌+◌, ◌-◌, ◌<◌, false, List, [], ◌∷◌, ◌++◌, length, take, drop, append_assoc}
use Rattle.std.proofs.Common.{length-append, refl, sym, ap, ◌∙◌, arith, inl, inr}
use Rattle.std.specs.List.{insert, remove}
use Rattle.std.proofs.lemmas.List.{take_at, drop_at, length-take, take-append-drop}
use Rattle.std.proofs.lemmas.Bool.{cases_lt, lt-ltb, le-ltb}
use Rattle.regions.specs.declared.layout.Shown.{Shown}
use Rattle.regions.specs.declared.node.Way.{Way}
use Rattle.regions.specs.Shapes.{Shape, region, split, regions, split_at, without, after, is_region}
use Rattle.regions.specs.Layouts.{Arrangement, empty, split_focused, remove_focused}
use Rattle.regions.proofs.Counting.{regions_split}

halved : (way : Way) (n : ℕ) (s : Shape) → is_region (split_at way n s) ≡ false
halved way n region = refl
halved way n (split w a b) = elim (cases_lt n (regions a)) [
  | inl lt ↦ rw (lt-ltb n (regions a) lt) refl
  | inr le ↦ rw (le-ltb n (regions a) le) refl
]

without_split : (way : Way) (s : Shape) (n : ℕ) → n < regions s → without (n + 1) (split_at way n s) ≡ s
without_split way region n lt = rw (le-ltb (n + 1) 1 (omega arith)) refl
without_split way (split w a b) n lt = elim (cases_lt n (regions a)) [
  | inl first ↦ rw (
    lt-ltb n (regions a) first,
    lt-ltb (n + 1) (regions (split_at way n a))
        (omega (arith, first, regions_split way n a)),
    halved way n a,
    without_split way a n first,
  ) refl
  | inr second ↦
      let more : (n + 1) - regions a ≡ (n - regions a) + 1 = omega (arith, second) in
      rw (
        le-ltb n (regions a) second,
        le-ltb (n + 1) (regions a) (omega (arith, second)),
        halved way (n - regions a) b,
        more,
        without_split way b (n - regions a) (omega (arith, lt, second)),
      ) refl
]

after_split : (way : Way) (s : Shape) (n : ℕ) → n < regions s → after (n + 1) (split_at way n s) ≡ n
after_split way region n lt = rw (le-ltb (n + 1) 1 (omega arith)) (omega arith)
after_split way (split w a b) n lt = elim (cases_lt n (regions a)) [
  | inl first ↦ rw (
    lt-ltb n (regions a) first,
    lt-ltb (n + 1) (regions (split_at way n a))
        (omega (arith, first, regions_split way n a)),
    halved way n a,
  ) (after_split way a n first)
  | inr second ↦
      let more : (n + 1) - regions a ≡ (n - regions a) + 1 = omega (arith, second) in
      rw (
        le-ltb n (regions a) second,
        le-ltb (n + 1) (regions a) (omega (arith, second)),
        halved way (n - regions a) b,
        more,
        after_split way b (n - regions a) (omega (arith, lt, second)),
      ) (omega (arith, second))
]

removed : (n : ℕ) (shown : List Shown) (s : Shown) → n < length shown → remove (insert shown (n + 1) s) (n + 1) ≡ shown
removed n shown s lt =
    let i = n + 1 in
    let len : length (take i shown) ≡ i = omega (arith, length-take i shown) in
    let front : take i (take i shown ++ s ∷ drop i shown) ≡ take i shown = take_at (take i shown) (s ∷ drop i shown) i
    len in
    let behind : length (take i shown ++ s ∷ []) ≡ suc i = omega (arith, len, length-append (take i shown) (s ∷ [])) in
    let back : drop (suc i) (take i shown ++ s ∷ drop i shown) ≡ drop i shown =
    ap (λ (x : List Shown). drop (suc i) x) (sym (append_assoc (take i shown) (s ∷ []) (drop i shown)))
    ∙ drop_at (take i shown ++ s ∷ []) (drop i shown) (suc i) behind in
    rw (front, back) (take-append-drop i shown)

pub split_undone : (way : Way) (l : Arrangement) → regions l.shape ≡ length l.shown → l.focus < length l.shown
    → remove_focused (record (split_focused way l) { focus = l.focus + 1 }) ≡ l
split_undone way l count inside =
    let shape-is = without_split way l.shape l.focus (omega arith) in
    let focus-is = after_split way l.shape l.focus (omega arith) in
    let shown-is = removed l.focus l.shown empty inside in
    rw (shape-is, focus-is, shown-is) refl
