-- Facts of rows that are lent so that they can be changed.
use Rattle.std.proofs.Common.{◌≡◌, ℕ, ◌<◌, List, ◌++◌, length, Option, Some, None, get_or, take, drop, ap, sym, ◌∙◌}
use Rattle.std.proofs.Common.{IsSome, MutBor}
use Rattle.std.proofs.Math.Seq.{take-append_seam}
use Rattle.std.specs.Prelude.{◌==◌, IfSome, OnSome}
use Rattle.std.specs.List.{position}
use Rattle.std.specs.Option.{option_copied_mut}
use Rattle.windows_model.specs.Finding.{row_of}
use Rattle.windows_model.specs.Lending.{written_over}
use Rattle.windows_model.proofs.Serials.{at_place}

pub at_some : {A P : Type 0} (o : Option A) → P → OnSome o P
at_some None p = tt
at_some (Some a) p = p

-- the row that is lent is the one with this serial
pub lent_row : {A : Type 0} (f : A → ℕ) (rows items : List A) (s i : ℕ) (o : Option (MutBor A)) → items ≡ rows
    → position (λ row. f row == s) rows ≡ Some i → i < length rows
    → IsSome o → IfSome o (λ r. r.now ≡ get_or items i r.now) → option_copied_mut o ≡ row_of f rows s
lent_row f rows items s i None same at lt some value = absurd (cc (some))
lent_row f rows items s i (Some r) same at lt some value = sym (at_place f rows items s i r.now same at lt value)

-- as many rows stand in place of all of them
pub over_all : {A : Type 0} (rows items : List A) (n : ℕ) → n ≡ length items → items ≡ rows → (w : List A)
    → take n (w ++ drop (length w) items) ≡ written_over rows w
over_all rows items n len same w = ap (λ k. take k (w ++ drop (length w) items)) len
    ∙ ap (λ xs. take (length xs) (w ++ drop (length w) xs)) same

pub over_same : {A : Type 0} (old rows : List A) → length rows ≡ length old → written_over old rows ≡ rows
over_same old rows len = ap (λ n. take n (rows ++ drop (length rows) old)) (sym len)
    ∙ take-append_seam rows (drop (length rows) old)
