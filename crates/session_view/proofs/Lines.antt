-- The lines of a window's page, scrolled back, are the definitions' lines.
use Rattle.session_view.proofs.Vocabulary.{ℕ, List, [], ◌∷◌, length, take, map, sym, subst, get_or-reverse}
use Rattle.session_view.proofs.Vocabulary.{length-reverse, line_at, Screen, moved_back}
use Rattle.std.proofs.Common.{zero, suc, ◌-◌, ◌<◌, ◌++◌, get_or, reverse, arith}
use Rattle.std.specs.List.{All}
use Rattle.std.proofs.lemmas.List.Elements.{All-from_get_or, All-get_or, All-append, All-take}
use Rattle.cells.specs.declared.cell.Cell.{Cell}

all_reverse : {X : Type 0} (P : X → Type 0) (xs : List X) (d : X) → All P xs → All P (reverse xs)
all_reverse P xs d all =
    All-from_get_or P (reverse xs) d
    (λ i inside.
    let within : i < length xs = omega (arith, inside, length-reverse xs) in
    let back : length xs - 1 - i < length xs = omega (arith, within) in
    subst P (sym (get_or-reverse xs i d within)) (All-get_or P xs (length xs - 1 - i) d back all))

-- what holds of each line of the page and of each kept line
pub lines_moved : (P : List Cell → Type 0) (back : ℕ) (x : Screen)
    → ((n : ℕ) → P (line_at x.page n)) → ((n : ℕ) → P (line_at x.kept n))
    → (n : ℕ) → n < length (moved_back back x) → P (line_at (moved_back back x) n)
lines_moved P back x page kept n inside =
    let older : All P x.kept = All-from_get_or P x.kept [] (λ i lt. kept i) in
    let above : All P (reverse (take back x.kept)) =
    all_reverse P (take back x.kept) [] (All-take P back x.kept older) in
    let below : All P x.page = All-from_get_or P x.page [] (λ i lt. page i) in
    All-get_or P (moved_back back x) n [] inside
    (All-take P (length x.page) (reverse (take back x.kept) ++ x.page)
    (All-append P (reverse (take back x.kept)) x.page above below))

-- what holds of each row's image, and past the last of them
pub at_each : {A B : Type 0} (P : B → Type 0) (f : A → B) (d : B) → ((a : A) → P (f a)) → P d
    → (xs : List A) (n : ℕ) → P (get_or (map f xs) n d)
at_each P f d each past [] n = past
at_each P f d each past (x ∷ xs) zero = each x
at_each P f d each past (x ∷ xs) (suc n) = at_each P f d each past xs n
