use Rattle.trail_rights.proofs.Vocabulary.{◌≡◌, ◌+◌, ◌≤◌, [], List, length, FoldsTo, Edition, UserId, Said, OfKnown}
use Rattle.trail_rights.proofs.Vocabulary.{AreRead, Follows, HasWatched}
use Rattle.trail_rights.proofs.watch.watch_entries.Given as goal

-- the entries before the line of this number were read and followed; and the callback may be called again
abbrev pub invariant-loop-number : goal.invariant-loop-number
invariant-loop-number g l =
    ((edition : Edition) (owner : UserId) → HasWatched l.fn.watch edition owner []
    → (said : List Said) × HasWatched l.watch edition owner said × (l.number ≡ length said + 2)
    × (length said ≤ l.last + 1)
    × OfKnown (g.R.Read.remaining l.fn.reader) (g.R.Read.remaining l.reader) (AreRead said)
    × FoldsTo (Follows g.F.FnMut) l.fn.follow said l.follow)
    × goal.F-IsAlwaysCallable g l.follow × (l.watch.acts.asked ≡ l.fn.watch.acts.asked)
