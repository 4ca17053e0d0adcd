-- A list at the front of a fixed array.
use Rattle.control_parser.proofs.Vocabulary.{ℕ, ◌+◌, ◌-◌, ◌<◌, List, drop, replicate, arith, ap, ◌∙◌, sym, set}
use Rattle.control_parser.proofs.Vocabulary.{drop-set-lt, drop-replicate, length-set, drop-drop, IsFront}

pub front_pushed : (room count x : ℕ) (array : List ℕ) → IsFront room count array → count < room
    → IsFront room (count + 1) (set array count x)
front_pushed room count x array h k = (
  omega arith,
  length-set array count x ∙ h.1,
  drop-set-lt (count + 1) array count x (omega arith) ∙ sym (drop-drop 1 count array) ∙ ap (drop 1) h.2
      ∙ drop-replicate 1 (room - count) 0 ∙ ap (λ n. replicate n 0) (omega arith),
)
