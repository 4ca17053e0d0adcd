use Rattle.std.proofs.Common.{arith, rules}
use Rattle.server_connections.proofs.Marking.{nothing, lowest}
use Rattle.server_connections.proofs.marked.bit_from.Goals as goal

pub returns-then-rest-eq0-clause-none : goal.returns-then-rest-eq0-clause-none
returns-then-rest-eq0-clause-none c none = nothing c.args.word c.args.from c.requires (omega
    (arith, c.if-rest-eq0.true))

pub returns-clause-some : goal.returns-clause-some
returns-clause-some c =
    lowest c.args.word c.args.from c.requires (omega (arith, c.if-rest-eq0.false)) (search rules)
