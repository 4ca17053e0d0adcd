-- The first stops of a longer list of stops.
use Rattle.std.proofs.Common.{◌≡◌, ℕ, ◌<◌, ◌≤◌, ◌%◌, ◌==◌, ◌&&◌, not, Bool, false, get_or, List, length, take, set}
use Rattle.std.proofs.Common.{replicate, ap, ◌∙◌, sym, arith}
use Rattle.std.proofs.Math.Seq.{take-set-lt}
use Rattle.std.proofs.lemmas.List.{take-replicate, length-take-le, ext_get_or}
use Rattle.std.proofs.lemmas.List.FromFn.{length-map-range_with_len, get_or-map-range_with_len}
use Rattle.terminal_model.specs.Screen.{starting_tabs}

pub length-taken : (n : ℕ) (stops tabs : List Bool) → take n stops ≡ tabs → n ≤ length stops → length tabs ≡ n
length-taken n stops tabs e h = ap length (sym e) ∙ length-take-le n stops h

pub taken-set : (n : ℕ) (stops tabs : List Bool) (i : ℕ) (on : Bool) → take n stops ≡ tabs → n ≤ length stops
    → i < length tabs → take n (set stops i on) ≡ set tabs i on
taken-set n stops tabs i on e h inside =
    let size = length-taken n stops tabs e h in
    take-set-lt n stops i on (omega arith) ∙ ap (λ t. set t i on) e

pub taken-clear : (n m : ℕ) (stops tabs : List Bool) → take n stops ≡ tabs → n ≤ length stops → n ≤ m
    → take n (replicate m false) ≡ replicate (length tabs) false
taken-clear n m stops tabs e h few = take-replicate n m false few
    ∙ ap (λ k. replicate k false) (sym (length-taken n stops tabs e h))

-- stops that are the starting ones, column by column
pub starting_tabs-is : (n : ℕ) (stops : List Bool) → length stops ≡ n
    → ((k : ℕ) → k < n → get_or stops k false ≡ (not (k == 0) && (k % 8 == 0))) → stops ≡ starting_tabs n
starting_tabs-is n stops size same =
    let f : ℕ → Bool = λ column. not (column == 0) && (column % 8 == 0) in
    ext_get_or false stops (starting_tabs n) (size ∙ sym (length-map-range_with_len f 0 n)) (λ k h.
    let inside : k < n = omega arith in
    same k inside ∙ sym (get_or-map-range_with_len f 0 n k k false inside (omega arith)))
