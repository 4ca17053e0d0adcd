use Rattle.std.proofs.Common.{◌≡◌, length}
use Rattle.line_fields.specs.Texts.{spelled}
use Rattle.line_fields.proofs.Spelled.{behind}
use Rattle.line_fields.proofs.texts.unescape.Given as goal

abbrev pub invariant-bytes : goal.invariant-bytes
invariant-bytes l = spelled l.fn.escaped ≡ behind l.out.items (spelled l.rest)

abbrev pub decreases-bytes : goal.decreases-bytes
decreases-bytes l = length l.rest
