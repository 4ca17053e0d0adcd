use Rattle.std.proofs.Common.{◌≡◌, Some, true, false}
use Rattle.std.specs.Path.{path_bytes}
use Rattle.std.specs.Path.Iter.{ancestors_next}
use Rattle.server_system.specs.Folders.{GoesUp, IsTrusted}
use Rattle.server_system.proofs.folders.first_open.Given as goal

abbrev pub invariant-loop-folder : goal.invariant-loop-folder
invariant-loop-folder g l =
    GoesUp (IsTrusted g.R.Host l.host l.account) (path_bytes l.fn.holder) (ancestors_next l.folder-iterator)
    × (l.is_above ≡ false → ancestors_next l.folder-iterator ≡ Some (path_bytes l.fn.holder))
    × (l.is_above ≡ true → IsTrusted g.R.Host l.host l.account (path_bytes l.fn.holder))
