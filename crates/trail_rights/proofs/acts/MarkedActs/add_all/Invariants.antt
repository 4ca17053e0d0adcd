use Rattle.trail_rights.proofs.Vocabulary.{◌≡◌, drop, Marked, marked_by, HasKept}
use Rattle.trail_rights.proofs.acts.MarkedActs.add_all.Given as goal

-- the acts that were followed, and those that are left
abbrev pub invariant-loop-act : goal.invariant-loop-act
invariant-loop-act l =
    ((marked : Marked) → HasKept l.fn.self marked
    → (past : Marked) × HasKept l.self past
    × (marked_by l.mark past (drop l.act-index l.acts) ≡ marked_by l.mark marked l.acts))
    × (l.self.asked ≡ l.fn.self.asked)
