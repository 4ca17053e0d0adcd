-- The next stop after each column, from the last column down to the first.
use Rattle.std.proofs.Common.{◌≡◌, ℕ, ◌+◌, ◌-◌, ◌<◌, ◌≤◌, min, Bool, true, false, not, get_or, List, length, set, drop}
use Rattle.std.proofs.Common.{ap, ◌∙◌, sym, arith, get_or-set_same, get_or-set_other, ⊎_elim, ◌≢◌}
use Rattle.std.proofs.lemmas.Bool.{cases_eq}
use Rattle.std.proofs.lemmas.List.Sums.{prefix_len-drop_yes, prefix_len-drop_no}
use Rattle.std.specs.List.{prefix_len}
use Rattle.terminal_model.specs.Motion.{next_stop}

-- the next stop after the column before this one
abbrev pub stop_from : List Bool → ℕ → ℕ
stop_from stops column = min (column + prefix_len not (drop column stops)) (length stops - 1)

-- the numbers are the next stops of the columns from this one on
abbrev pub AreNextFrom : ℕ → List Bool → List ℕ → Type 0
AreNextFrom column stops next =
    (k : ℕ) → column ≤ k → k < length stops → get_or next k 0 ≡ next_stop stops (length stops) k

-- one column more
pub next-more : (stops : List Bool) (next : List ℕ) (column stop n : ℕ) → column ≡ n + 1 → column ≤ length stops
    → length stops ≤ length next → AreNextFrom column stops next → stop ≡ stop_from stops column
    → AreNextFrom n stops (set next n stop)
next-more stops next column stop n e inside room noted ahead k from below = ⊎_elim
    (λ (same : k ≡ n). rw same (get_or-set_same next n stop 0 (omega arith) ∙ (ahead ∙ ap (stop_from stops) e)))
    (λ (other : k ≢ n). get_or-set_other next n k stop 0 other ∙ noted k (omega arith) below)
    (cases_eq k n)

-- a stop is the next one of the column before it
pub stop_from-here : (stops : List Bool) (n : ℕ) → n < length stops → get_or stops n false ≡ true
    → n ≡ stop_from stops n
stop_from-here stops n inside here =
    omega (arith, prefix_len-drop_no not stops n false inside (ap not here))

-- without a stop in a column, the next one is that of the column
pub stop_from-further : (stops : List Bool) (column stop n : ℕ) → column ≡ n + 1 → column ≤ length stops
    → get_or stops n false ≡ false → stop ≡ stop_from stops column → stop ≡ stop_from stops n
stop_from-further stops column stop n e inside none ahead =
    let far : n + prefix_len not (drop n stops) ≡ n + 1 + prefix_len not (drop (n + 1) stops) =
    omega (arith, prefix_len-drop_yes not stops n false (omega arith) (ap not none)) in
    ahead ∙ (ap (stop_from stops) e ∙ ap (λ m. min m (length stops - 1)) (sym far))
