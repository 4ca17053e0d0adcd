-- What is read through a line feed.
use Rattle.std.proofs.Common.{◌≡◌, ◌≢◌, ℕ, List, [], ◌∷◌, ◌++◌, Option, Some, None, IfSome, length}
use Rattle.std.proofs.Common.{refl, ap, sym, ◌∙◌, cond, subst}
use Rattle.std.specs.Prelude.{Bool, true, false, not, ◌==◌, ◌&&◌}
use Rattle.std.specs.Io.BufRead.{take_through, drop_through, DropsThrough}
use Rattle.std.proofs.BufReadLemmas.{take_through-nil}
use Rattle.trail_lines.specs.declared.halt.NextLine.TheVariants as came
use Rattle.trail_lines.specs.Lines.{feed, is_unbroken, ComesAs, OfKnown}

-- a list isn't empty that ends in a byte
no_end : (front : List ℕ) (b : ℕ) → [] ≡ front ++ b ∷ [] → ⊥
no_end [] b e = cc
no_end (y ∷ front) b e = cc

feed_is : (x : ℕ) → x ≡ feed → (x == feed) ≡ true
feed_is x same = ap (λ n. n == feed) same

more_unbroken : (x : ℕ) (line : List ℕ) → (x == feed) ≡ false → is_unbroken line ≡ true → is_unbroken (x ∷ line) ≡ true
more_unbroken x line other all = λ i. not (other i) && all i

-- ---- up to a line feed

abbrev Whole : List ℕ → List ℕ → List ℕ → Type 0
Whole xs line left = (is_unbroken line ≡ true) × (xs ≡ line ++ feed ∷ left)

whole_at : (x : ℕ) (xs : List ℕ) (b : Bool) (line : List ℕ) → (x == feed) ≡ b
    → cond b (x ∷ []) (x ∷ take_through feed xs) ≡ line ++ feed ∷ []
    → ((line : List ℕ) → take_through feed xs ≡ line ++ feed ∷ [] → Whole xs line (drop_through feed xs))
    → Whole (x ∷ xs) line (cond b xs (drop_through feed xs))
whole_at x xs true [] is e more =
    let same : x ≡ feed = cc in (refl, ap (λ n. n ∷ xs) same)
whole_at x xs true (y ∷ line) is e more =
    let none : [] ≡ line ++ feed ∷ [] = cc in absurd (no_end line feed none)
whole_at x xs false [] is e more =
    let same : x ≡ feed = cc in
    let no : true ≡ false = sym (feed_is x same) ∙ is in cc
whole_at x xs false (y ∷ line) is e more =
    let same : x ≡ y = cc in
    let behind : take_through feed xs ≡ line ++ feed ∷ [] = cc in
    let m = more line behind in
    (more_unbroken y line (sym (ap (λ n. n == feed) same) ∙ is) m.0, λ i. same i ∷ m.1 i)

pub whole : (xs line : List ℕ) → take_through feed xs ≡ line ++ feed ∷ [] → Whole xs line (drop_through feed xs)
whole [] line e = absurd (no_end line feed e)
whole (x ∷ xs) line e = whole_at x xs (x == feed) line refl e (whole xs)

-- ---- up to the end

abbrev Torn : List ℕ → List ℕ → List ℕ → Type 0
Torn xs line left = (is_unbroken line ≡ true) × (xs ≡ line) × (left ≡ [])

torn_at : (x : ℕ) (xs : List ℕ) (b : Bool) (front : List ℕ) (last : ℕ) → (x == feed) ≡ b → (last == feed) ≡ false
    → cond b (x ∷ []) (x ∷ take_through feed xs) ≡ front ++ last ∷ []
    → ((front : List ℕ) → take_through feed xs ≡ front ++ last ∷ []
    → Torn xs (front ++ last ∷ []) (drop_through feed xs))
    → Torn (x ∷ xs) (front ++ last ∷ []) (cond b xs (drop_through feed xs))
torn_at x xs true [] last is other e more =
    let same : x ≡ last = cc in
    let no : true ≡ false = sym is ∙ (ap (λ n. n == feed) same ∙ other) in cc
torn_at x xs true (y ∷ front) last is other e more =
    let none : [] ≡ front ++ last ∷ [] = cc in absurd (no_end front last none)
torn_at x xs false [] last is other e more =
    let same : x ≡ last = cc in
    let none : take_through feed xs ≡ [] = cc in
    let all : xs ≡ [] = take_through-nil feed xs (ap length none) in
    (more_unbroken last [] other refl, (λ i. same i ∷ all i), ap (drop_through feed) all)
torn_at x xs false (y ∷ front) last is other e more =
    let same : x ≡ y = cc in
    let behind : take_through feed xs ≡ front ++ last ∷ [] = cc in
    let m = more front behind in
    (more_unbroken y (front ++ last ∷ []) (sym (ap (λ n. n == feed) same) ∙ is) m.0, (λ i. same i ∷ m.1 i), m.2)

pub torn : (xs front : List ℕ) (last : ℕ) → (last == feed) ≡ false → take_through feed xs ≡ front ++ last ∷ []
    → Torn xs (front ++ last ∷ []) (drop_through feed xs)
torn [] front last other e = absurd (no_end front last e)
torn (x ∷ xs) front last other e =
    torn_at x xs (x == feed) front last refl other e (λ front e. torn xs front last other e)

-- ---- as a reader's bytes

abbrev Read : Option (List ℕ) → List ℕ → List ℕ → Type 0
Read old begun all = IfSome old (λ xs. all ≡ begun ++ take_through feed xs)

read_of : (xs begun all line : List ℕ) → begun ≡ [] → all ≡ begun ++ take_through feed xs → all ≡ line
    → take_through feed xs ≡ line
read_of xs begun all line empty bytes is = sym (ap (λ l. l ++ take_through feed xs) empty) ∙ (sym bytes ∙ is)

pub came_whole : (old new : Option (List ℕ)) (begun all line : List ℕ) → begun ≡ [] → Read old begun all
    → DropsThrough old new feed → all ≡ line ++ feed ∷ [] → OfKnown old new (ComesAs came.Whole line)
came_whole None new begun all line empty bytes rest is = tt
came_whole (Some xs) new begun all line empty bytes rest is =
    subst (λ (n : Option (List ℕ)). OfKnown (Some xs) n (ComesAs came.Whole line)) (sym rest)
    (whole xs line (read_of xs begun all (line ++ feed ∷ []) empty bytes is))

some_end : (front : List ℕ) (b : ℕ) → front ++ b ∷ [] ≢ []
some_end front b e = no_end front b (sym e)

pub came_torn : (old new : Option (List ℕ)) (begun all front : List ℕ) (last : ℕ) → (last == feed) ≡ false → begun ≡ []
    → Read old begun all → DropsThrough old new feed → all ≡ front ++ last ∷ []
    → OfKnown old new (ComesAs came.Torn (front ++ last ∷ []))
came_torn None new begun all front last other empty bytes rest is = tt
came_torn (Some xs) new begun all front last other empty bytes rest is =
    let t = torn xs front last other (read_of xs begun all (front ++ last ∷ []) empty bytes is) in
    subst (λ (n : Option (List ℕ)). OfKnown (Some xs) n (ComesAs came.Torn (front ++ last ∷ []))) (sym rest)
    (t.0, some_end front last, t.1, t.2)
