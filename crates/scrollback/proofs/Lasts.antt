-- The last items of a list.
use Rattle.std.proofs.Common.{◌≡◌, ℕ, ◌+◌, ◌-◌, ◌<◌, ◌≤◌, min, List, [], ◌∷◌, ◌++◌, length, get_or, drop, refl, sym, ap}
use Rattle.std.proofs.Common.{◌∙◌, arith, ⊎_elim, length-append, length-drop, get_or-drop, Some}
use Rattle.std.specs.Prelude.{slice_get, unwrap_or}
use Rattle.std.proofs.lemmas.List.{drop-append-le, drop-drop, get_or_append_left, get_or-append_right}
use Rattle.std.proofs.lemmas.Bool.{cases_lt}
use Rattle.circular_buffer.specs.Buffer.{keep_last}

module _ {X : Type 0} where
  pub keep_all : (n : ℕ) (xs : List X) → length xs ≤ n → keep_last n xs ≡ xs
  keep_all n xs h = let z : length xs - n ≡ 0 = omega arith in ap (λ k. drop k xs) z

  -- the last items of a list, and one more item
  last_and_one : (n : ℕ) (xs : List X) (x : X) → keep_last n xs ++ x ∷ [] ≡ drop (length xs - n) (xs ++ x ∷ [])
  last_and_one n xs x = sym (drop-append-le (length xs - n) xs (x ∷ []) (omega arith))

  n_one : (xs : List X) (x : X) → length (xs ++ x ∷ []) ≡ length xs + 1
  n_one xs x = length-append xs (x ∷ [])

  n_drop : (n : ℕ) (xs : List X) (x : X) → length (drop n (xs ++ x ∷ [])) ≡ length xs + 1 - n
  n_drop n xs x = length-drop n (xs ++ x ∷ []) ∙ ap (λ k. k - n) (n_one xs x)

  -- the last items of a list with one more item, from the last items of the list
  pub keep_twice : (keep : ℕ) (xs : List X) (x : X)
      → keep_last keep (keep_last keep xs ++ x ∷ []) ≡ keep_last keep (xs ++ x ∷ [])
  keep_twice keep xs x =
      let zs : List X = xs ++ x ∷ [] in
      let n : length zs ≡ length xs + 1 = n_one xs x in
      let m : length (drop (length xs - keep) zs) ≡ length xs + 1 - (length xs - keep) = n_drop (length xs - keep) xs x
      in
      ap (keep_last keep) (last_and_one keep xs x)
      ∙ drop-drop (length (drop (length xs - keep) zs) - keep) (length xs - keep) zs
      ∙ ap (λ k. drop k zs) (omega arith)

  -- all items but the first one, and one more: the last of them
  pub keep_next : (keep count : ℕ) (items : List X) (x : X) → length items ≡ keep → 0 < keep → count ≤ keep
      → keep_last (min (count + 1) keep) (drop 1 items ++ x ∷ []) ≡ keep_last keep (keep_last count items ++ x ∷ [])
  keep_next keep count items x full some room =
      let zs : List X = items ++ x ∷ [] in
      let n : length zs ≡ length items + 1 = n_one items x in
      let m : length (drop (length items - count) zs) ≡ length items + 1 - (length items - count) = n_drop
      (length items - count) items x in
      let one : drop 1 items ++ x ∷ [] ≡ drop 1 zs = sym (drop-append-le 1 items (x ∷ []) (omega arith)) in
      let k : length (drop 1 zs) ≡ length items + 1 - 1 = n_drop 1 items x in
      ap (keep_last (min (count + 1) keep)) one
      ∙ drop-drop (length (drop 1 zs) - min (count + 1) keep) 1 zs
      ∙ ap (λ i. drop i zs) (omega arith)
      ∙ sym (drop-drop (length (drop (length items - count) zs) - keep) (length items - count) zs)
      ∙ sym (ap (keep_last keep) (last_and_one count items x))

pub head_inside : {X : Type 0} (items : List X) (x : X) → Some x ≡ slice_get items 0 → 0 < length items
head_inside [] x h = cc
head_inside (y ∷ ys) x h = omega arith

pub head_is : {X : Type 0} (items : List X) (x d : X) → Some x ≡ slice_get items 0 → x ≡ get_or items 0 d
head_is [] x d h = cc
head_is (y ∷ ys) x d h = ap (λ o. unwrap_or o d) h

-- lines of one width, of which the first one goes and another one comes in at the end
pub widths_next : {X : Type 0} (items : List (List X)) (x : List X) (n : ℕ) → 0 < length items → length x ≡ n
    → ((k : ℕ) → k < length items → length (get_or items k []) ≡ n)
    → (k : ℕ) → k < length items → length (get_or (drop 1 items ++ x ∷ []) k []) ≡ n
widths_next items x n some new old k h =
    let m : length (drop 1 items) ≡ length items - 1 = length-drop 1 items in ⊎_elim
    (λ (front : k < length (drop 1 items)). ap length
    (get_or_append_left (drop 1 items) (x ∷ []) [] k front ∙ get_or-drop 1 items k []) ∙ old (1 + k) (omega arith))
    (λ (last : length (drop 1 items) ≤ k). let z : k - length (drop 1 items) ≡ 0 = omega arith in
    ap length
    (get_or-append_right (drop 1 items) (x ∷ []) (length (drop 1 items)) k [] refl last
    ∙ ap (λ i. get_or (x ∷ []) i []) z) ∙ new)
    (cases_lt k (length (drop 1 items)))

pub length_next : {X : Type 0} (items : List X) (x : X) → 0 < length items
    → length (drop 1 items ++ x ∷ []) ≡ length items
length_next items x some = length-append (drop 1 items) (x ∷ []) ∙ ap (λ k. k + 1) (length-drop 1 items) ∙ omega arith
