-- What a setup keeps, act after act, and masks that are set.
use Rattle.trail_setup.proofs.Vocabulary.{◌≡◌, ◌∙◌, ◌∷◌, ◌++◌, ◌+◌, ◌<◌, ◌≤◌, ◌&&◌, [], ℕ, List, Bool, true, false}
use Rattle.trail_setup.proofs.Vocabulary.{refl, sym, ap, subst, take, drop, set, length, if◌then◌else◌, slice_index_or}
use Rattle.trail_setup.proofs.Vocabulary.{append_assoc, add-one, set_split, take_more, Act, Bit, UserId, same_user}
use Rattle.trail_setup.proofs.Vocabulary.{take_past, SetMask, SetupState, FollowsAct, FollowsEach, masked_in, with_bit}
use Rattle.trail_setup.proofs.Vocabulary.{all_bits}
use Rattle.acl.proofs.InPlace.{drop-next, drop-past}

pub each_more : (acts : List Act) (a : Act) (x y z : SetupState) → FollowsEach acts x y → FollowsAct a y z
    → FollowsEach (acts ++ a ∷ []) x z
each_more [] a x y z e f = (z, subst (λ (s : SetupState). FollowsAct a s z) e f, refl)
each_more (b ∷ acts) a x y z all f = (all.0, all.1, each_more acts a all.0 y z all.2 f)

-- ---- a mask is set, place by place

module _ (by u : UserId) (bit : Bit) (value : Bool) (xs : List SetMask) (i : ℕ)
    (later : masked_in by u bit value xs ≡ take i xs ++ masked_in by u bit value (drop i xs)) where
  module _ (m : SetMask) (below : i < length xs) (is : m ≡ slice_index_or xs i m) where
    from-here : (b : Bool) → (same_user m.by by && same_user m.user u) ≡ b → masked_in by u bit value xs
        ≡ take i xs
        ++ (if b then record m { left = with_bit bit value m.left } ∷ drop (i + 1) xs
        else m ∷ masked_in by u bit value (drop (i + 1) xs))
    from-here b e = later
        ∙ ap (λ (l : List SetMask). take i xs ++ masked_in by u bit value l) (sym (drop-next xs i m below))
        ∙ ap (λ (n : SetMask). take i xs ++ masked_in by u bit value (n ∷ drop (i + 1) xs)) (sym is)
        ∙ ap (λ c. take i xs
        ++ (if c then record m { left = with_bit bit value m.left } ∷ drop (i + 1) xs
        else m ∷ masked_in by u bit value (drop (i + 1) xs))) e

    pub masked_past : (same_user m.by by && same_user m.user u) ≡ false
        → masked_in by u bit value xs ≡ take (i + 1) xs ++ masked_in by u bit value (drop (i + 1) xs)
    masked_past e = from-here false e
        ∙ sym (append_assoc (take i xs) (m ∷ []) (masked_in by u bit value (drop (i + 1) xs)))
        ∙ ap (λ (l : List SetMask). l ++ masked_in by u bit value (drop (i + 1) xs))
        (ap (λ (n : SetMask). take i xs ++ n ∷ []) is ∙ sym (take_more xs i m below))

    pub masked_here : (left : List Bool) → left ≡ with_bit bit value m.left
        → (same_user m.by by && same_user m.user u) ≡ true
        → set xs i (record m { left = left }) ≡ masked_in by u bit value xs
    masked_here left given e = ap (λ (l : List Bool). set xs i (record m { left = l })) given
        ∙ set_split xs i (record m { left = with_bit bit value m.left }) below
        ∙ ap (λ k. take i xs ++ record m { left = with_bit bit value m.left } ∷ drop k xs) (sym (add-one i))
        ∙ sym (from-here true e)

  pub masked_last : (left : List Bool) → left ≡ with_bit bit value all_bits → length xs ≤ i
      → xs ++ record { by = by; user = u; left = left } ∷ [] ≡ masked_in by u bit value xs
  masked_last left given past = ap (λ (l : List Bool). xs ++ record { by = by; user = u; left = l } ∷ []) given
      ∙ sym (later ∙ ap (λ (l : List SetMask). l ++ masked_in by u bit value (drop i xs)) (take_past i xs past)
      ∙ ap (λ (l : List SetMask). xs ++ masked_in by u bit value l) (drop-past i xs past))
