-- The lines that end in some bytes after others, and the line that is left unended.
use Rattle.std.proofs.Common.{◌≡◌, ℕ, ◌<◌, Bool, true, false, cond, ◌||◌, List, [], ◌∷◌, ◌++◌, length, refl, sym, ap}
use Rattle.std.proofs.Common.{◌∙◌, append-nil, arith}
use Rattle.std.specs.List.{slice_split, onto_first, list_any}
use Rattle.std.proofs.lemmas.List.Splits.{length-slice_split}
use Rattle.std.proofs.lemmas.Bool.Decides.{nat_tests}
use Rattle.client_words.specs.Lines.{is_feed, all_but_last, last_of, ended, unended}

abbrev parts : List ℕ → List (List ℕ)
parts bytes = slice_split is_feed bytes

parts_some : (bytes : List ℕ) → 0 < length (parts bytes)
parts_some bytes = omega (arith, length-slice_split is_feed bytes)

-- ---- a part more in front

front-yes : (x : ℕ) (xs : List ℕ) → is_feed x ≡ true → parts (x ∷ xs) ≡ [] ∷ parts xs
front-yes x xs h = ap (λ b. cond b ([] ∷ parts xs) (onto_first x (parts xs))) h

front-no : (x : ℕ) (xs : List ℕ) → is_feed x ≡ false → parts (x ∷ xs) ≡ onto_first x (parts xs)
front-no x xs h = ap (λ b. cond b ([] ∷ parts xs) (onto_first x (parts xs))) h

yes : (ys : List ℕ) (whole tail : List (List ℕ)) → 0 < length tail
    → whole ≡ all_but_last tail ++ parts (last_of tail ++ ys)
    → [] ∷ whole ≡ all_but_last ([] ∷ tail) ++ parts (last_of ([] ∷ tail) ++ ys)
yes ys whole [] some e = absurd (omega arith)
yes ys whole (q ∷ tail) some e = ap (λ (l : List (List ℕ)). [] ∷ l) e

no : (x : ℕ) (ys : List ℕ) (whole tail : List (List ℕ)) → is_feed x ≡ false → 0 < length tail
    → whole ≡ all_but_last tail ++ parts (last_of tail ++ ys)
    → onto_first x whole ≡ all_but_last (onto_first x tail) ++ parts (last_of (onto_first x tail) ++ ys)
no x ys whole [] h some e = absurd (omega arith)
no x ys whole (q ∷ []) h some e = ap (onto_first x) e ∙ sym (front-no x (q ++ ys) h)
no x ys whole (q ∷ r ∷ tail) h some e = ap (onto_first x) e

pub behind : (xs ys : List ℕ) → parts (xs ++ ys) ≡ all_but_last (parts xs) ++ parts (last_of (parts xs) ++ ys)
behind [] ys = refl
behind (x ∷ xs) ys = go (is_feed x) refl (behind xs ys)
  where
    go : (b : Bool) → is_feed x ≡ b → parts (xs ++ ys) ≡ all_but_last (parts xs) ++ parts (last_of (parts xs) ++ ys)
        → parts (x ∷ (xs ++ ys)) ≡ all_but_last (parts (x ∷ xs)) ++ parts (last_of (parts (x ∷ xs)) ++ ys)
    go true h e = rw (front-yes x (xs ++ ys) h, front-yes x xs h)
        (yes ys (parts (xs ++ ys)) (parts xs) (parts_some xs) e)
    go false h e = rw (front-no x (xs ++ ys) h, front-no x xs h)
        (no x ys (parts (xs ++ ys)) (parts xs) h (parts_some xs) e)

-- ---- the last of several parts

front_parts : (front tail : List (List ℕ)) → 0 < length tail → all_but_last (front ++ tail) ≡ front ++ all_but_last tail
front_parts [] tail some = refl
front_parts (p ∷ []) [] some = absurd (omega arith)
front_parts (p ∷ []) (t ∷ tail) some = refl
front_parts (p ∷ q ∷ front) tail some = ap (λ (l : List (List ℕ)). p ∷ l) (front_parts (q ∷ front) tail some)

last_part : (front tail : List (List ℕ)) → 0 < length tail → last_of (front ++ tail) ≡ last_of tail
last_part [] tail some = refl
last_part (p ∷ []) [] some = absurd (omega arith)
last_part (p ∷ []) (t ∷ tail) some = refl
last_part (p ∷ q ∷ front) tail some = last_part (q ∷ front) tail some

-- ---- bytes after others

pub ended-behind : (xs ys : List ℕ) → ended (xs ++ ys) ≡ ended xs ++ ended (unended xs ++ ys)
unfolding ended unended
ended-behind xs ys = ap all_but_last (behind xs ys)
    ∙ front_parts (all_but_last (parts xs)) (parts (last_of (parts xs) ++ ys)) (parts_some (last_of (parts xs) ++ ys))

pub unended-behind : (xs ys : List ℕ) → unended (xs ++ ys) ≡ unended (unended xs ++ ys)
unfolding ended unended
unended-behind xs ys = ap last_of (behind xs ys)
    ∙ last_part (all_but_last (parts xs)) (parts (last_of (parts xs) ++ ys)) (parts_some (last_of (parts xs) ++ ys))

-- ---- no line feed stands in what is left unended

plain-yes : (tail : List (List ℕ)) → 0 < length tail → list_any is_feed (last_of tail) ≡ false
    → list_any is_feed (last_of ([] ∷ tail)) ≡ false
plain-yes [] some h = absurd (omega arith)
plain-yes (t ∷ tail) some h = h

plain-no : (x : ℕ) (tail : List (List ℕ)) → is_feed x ≡ false → 0 < length tail
    → list_any is_feed (last_of tail) ≡ false → list_any is_feed (last_of (onto_first x tail)) ≡ false
plain-no x [] n some h = absurd (omega arith)
plain-no x (t ∷ []) n some h = ap (λ b. b || list_any is_feed t) n ∙ h
plain-no x (t ∷ u ∷ tail) n some h = h

plain : (xs : List ℕ) → list_any is_feed (last_of (parts xs)) ≡ false
plain [] = refl
plain (x ∷ xs) = go (is_feed x) refl (plain xs)
  where
    go : (b : Bool) → is_feed x ≡ b → list_any is_feed (last_of (parts xs)) ≡ false
        → list_any is_feed (last_of (parts (x ∷ xs))) ≡ false
    go true h e = rw (front-yes x xs h) (plain-yes (parts xs) (parts_some xs) e)
    go false h e = rw (front-no x xs h) (plain-no x (parts xs) h (parts_some xs) e)

-- ---- one byte after such bytes

one-feed : (line : List ℕ) (byte : ℕ) → list_any is_feed line ≡ false → is_feed byte ≡ true
    → parts (line ++ byte ∷ []) ≡ line ∷ [] ∷ []
one-feed [] byte n h = front-yes byte [] h
one-feed (x ∷ line) byte n h =
    let first : is_feed x ≡ false = grind (arith, nat_tests) in
    let rest : list_any is_feed line ≡ false = grind (arith, nat_tests) in
    front-no x (line ++ byte ∷ []) first ∙ ap (onto_first x) (one-feed line byte rest h)

one-other : (line : List ℕ) (byte : ℕ) → list_any is_feed line ≡ false → is_feed byte ≡ false
    → parts (line ++ byte ∷ []) ≡ (line ++ byte ∷ []) ∷ []
one-other [] byte n h = front-no byte [] h
one-other (x ∷ line) byte n h =
    let first : is_feed x ≡ false = grind (arith, nat_tests) in
    let rest : list_any is_feed line ≡ false = grind (arith, nat_tests) in
    front-no x (line ++ byte ∷ []) first ∙ ap (onto_first x) (one-other line byte rest h)

pub ended-feed : (xs : List ℕ) (byte : ℕ) → is_feed byte ≡ true → ended (xs ++ byte ∷ []) ≡ ended xs ++ unended xs ∷ []
unfolding ended unended
ended-feed xs byte h = ended-behind xs (byte ∷ [])
    ∙ ap (λ (l : List (List ℕ)). ended xs ++ all_but_last l) (one-feed (unended xs) byte (plain xs) h)

pub unended-feed : (xs : List ℕ) (byte : ℕ) → is_feed byte ≡ true → unended (xs ++ byte ∷ []) ≡ []
unfolding ended unended
unended-feed xs byte h = unended-behind xs (byte ∷ []) ∙ ap last_of (one-feed (unended xs) byte (plain xs) h)

pub ended-other : (xs : List ℕ) (byte : ℕ) → is_feed byte ≡ false → ended (xs ++ byte ∷ []) ≡ ended xs
unfolding ended unended
ended-other xs byte h = ended-behind xs (byte ∷ [])
    ∙ ap (λ (l : List (List ℕ)). ended xs ++ all_but_last l) (one-other (unended xs) byte (plain xs) h)
    ∙ simp append-nil

pub unended-other : (xs : List ℕ) (byte : ℕ) → is_feed byte ≡ false
    → unended (xs ++ byte ∷ []) ≡ unended xs ++ byte ∷ []
unfolding ended unended
unended-other xs byte h = unended-behind xs (byte ∷ []) ∙ ap last_of (one-other (unended xs) byte (plain xs) h)

pub unended-nil : unended [] ≡ []
unfolding unended
unended-nil = refl

pub ended-nil : ended [] ≡ []
unfolding ended
ended-nil = refl

-- no line ends in what is left unended
whole : (line : List ℕ) → list_any is_feed line ≡ false → parts line ≡ line ∷ []
whole [] n = refl
whole (x ∷ line) n =
    let first : is_feed x ≡ false = grind (arith, nat_tests) in
    let rest : list_any is_feed line ≡ false = grind (arith, nat_tests) in
    front-no x line first ∙ ap (onto_first x) (whole line rest)

pub ended-unended : (xs : List ℕ) → ended (unended xs) ≡ []
unfolding ended unended
ended-unended xs = ap all_but_last (whole (unended xs) (plain xs))
