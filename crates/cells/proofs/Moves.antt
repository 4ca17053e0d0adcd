-- The cells of each column after the slice calls of a splice.
use Rattle.cells.proofs.Vocabulary.{◌≡◌, ℕ, ◌+◌, ◌-◌, ◌<◌, ◌≤◌, List, length, get_or, take, drop, replicate, ap, ◌∙◌}
use Rattle.cells.proofs.Vocabulary.{arith, length-take, length-drop, length-append, places, length-replicate}
use borrow.Rule.Slice.PartMut.{put_mid}
use lib.Seq.{paste}

-- the line after the copy, after the first fill, and after the second one
abbrev pub shifted_line : {X : Type 0} → List X → ℕ → ℕ → ℕ → List X
shifted_line old start rest moved = paste old start (drop rest old) moved

abbrev pub cleared_line : {X : Type 0} → X → List X → ℕ → ℕ → ℕ → ℕ → List X
cleared_line blank old at start rest moved = put_mid at (start - at) (shifted_line old start rest moved)
    (replicate (start - at) blank)

abbrev pub moved_line : {X : Type 0} → X → List X → ℕ → ℕ → ℕ → ℕ → List X
moved_line blank old at start rest moved =
    let line = cleared_line blank old at start rest moved in
    put_mid (start + moved) (length old - (start + moved)) line (replicate (length old - (start + moved)) blank)

module _ {X : Type 0} (blank : X) (old : List X) (at start rest moved : ℕ) (order : at ≤ start)
    (room : start + moved ≤ length old) (inside : rest + moved ≤ length old) where
  abbrev shifted : List X
  shifted = shifted_line old start rest moved

  abbrev cleared : List X
  cleared = cleared_line blank old at start rest moved

  abbrev line : List X
  line = moved_line blank old at start rest moved

  length_shifted : length shifted ≡ length old
  length_shifted = simp (length-append, length-take, length-drop) (omega arith)

  pub length_cleared : length cleared ≡ length old
  length_cleared = simp (length-append, length-take, length-drop, length-replicate) (omega arith)

  pub length-moved_line : length line ≡ length old
  length-moved_line = let n = length_cleared in simp (length-append, length-take, length-drop, length-replicate)
      (omega arith)

  pub moved_front : (k : ℕ) (d : X) → k < at → get_or line k d ≡ get_or old k d
  moved_front k d h = grind (arith, places, length_cleared, length_shifted)

  pub moved_blank : (k : ℕ) (d : X) → at ≤ k → k < start → get_or line k d ≡ blank
  moved_blank k d h g = grind (arith, places, length_cleared, length_shifted)

  pub moved_rest : (k : ℕ) (d : X) → start ≤ k → k < start + moved → get_or line k d ≡ get_or old (k + rest - start) d
  moved_rest k d h g = grind (arith, places, length_cleared, length_shifted)

  pub moved_end : (k : ℕ) (d : X) → start + moved ≤ k → k < length old → get_or line k d ≡ blank
  moved_end k d h g = grind (arith, places, length_cleared, length_shifted)

-- the three slice calls, in the form that a function has them
pub calls_are : {X : Type 0} → (blank : X) (old copied first second : List X) (at start rest moved : ℕ) → at ≤ start
    → start + moved ≤ length old → rest + moved ≤ length old
    → copied ≡ paste old start (drop rest old) (rest + moved - rest)
    → first ≡ replicate (length (take (start - at) (drop at copied))) blank
    → second ≡ replicate
    (length
    (take (length (put_mid at (start - at) copied first) - (start + moved))
    (drop (start + moved) (put_mid at (start - at) copied first)))) blank
    → put_mid (start + moved) (length (put_mid at (start - at) copied first) - (start + moved))
    (put_mid at (start - at) copied first) second ≡ moved_line blank old at start rest moved
calls_are {X} blank old copied first second at start rest moved order room inside c f s =
    let m : rest + moved - rest ≡ moved = omega arith in
    let copied' : copied ≡ shifted_line old start rest moved = c ∙ ap (λ n. paste old start (drop rest old) n) m in
    let n0 : length copied ≡ length old = ap length copied'
    ∙ length_shifted blank old at start rest moved order room inside in
    let n1 : length (take (start - at) (drop at copied)) ≡ start - at = simp (length-take, length-drop) (omega arith) in
    let cleared' : put_mid at (start - at) copied first ≡ cleared_line blank old at start rest moved =
    ap (λ x. put_mid at (start - at) copied x) (f ∙ ap (λ n. replicate n blank) n1)
    ∙ ap (λ x. put_mid at (start - at) x (replicate (start - at) blank)) copied' in
    let n2 : length (put_mid at (start - at) copied first) ≡ length old = ap length cleared'
    ∙ length_cleared blank old at start rest moved order room inside in
    let n3 : length
    (take (length (put_mid at (start - at) copied first) - (start + moved))
    (drop (start + moved) (put_mid at (start - at) copied first))) ≡ length old - (start + moved) =
    ap (λ (x : List X). length (take (length x - (start + moved)) (drop (start + moved) x))) cleared'
    ∙
    (let l = length_cleared blank old at start rest moved order room inside in simp (length-take, length-drop)
    (omega arith)) in
    ap (λ x. put_mid (start + moved) (length (put_mid at (start - at) copied first) - (start + moved))
    (put_mid at (start - at) copied first) x) (s ∙ ap (λ n. replicate n blank) n3)
    ∙ ap (λ x. put_mid (start + moved) (length x - (start + moved)) x (replicate (length old - (start + moved)) blank))
    cleared'
    ∙ ap (λ n. put_mid (start + moved) (n - (start + moved)) (cleared_line blank old at start rest moved)
    (replicate (length old - (start + moved)) blank))
    (length_cleared blank old at start rest moved order room inside)
