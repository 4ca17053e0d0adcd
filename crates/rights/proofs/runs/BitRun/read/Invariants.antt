use Rattle.rights.proofs.Vocabulary.{◌≡◌, ◌++◌, length, AllByRecursion, sets, IsUnlocked}
use Rattle.rights.proofs.runs.BitRun.read.Given as goal

-- the acts so far, and what is left
abbrev pub invariant-objects : goal.invariant-objects
invariant-objects l =
    (l.fn.acts ≡ sets l.fn.user l.self.changes.items l.self.objects.items ++ l.rest)
    × AllByRecursion (IsUnlocked l.fn.locks) l.self.objects.items

abbrev pub decreases-objects : goal.decreases-objects
decreases-objects l = length l.rest
