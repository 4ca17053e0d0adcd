use Rattle.std.proofs.Common.{arith, length}
use Rattle.std.specs.Result.{is_ok}
use Rattle.std.proofs.lemmas.Bool.{true≢false}
use Rattle.server_sending.proofs.Typing.{grows, within_put}
use Rattle.server_sending.proofs.turn.Turn.end.Goals as goal

pub invariant_of-self : goal.invariant_of-self
invariant_of-self c =
    let old = c.self.inside.bytes.len in
    let new = c.extend_from_slice.new.self.len in
    let ok = is_ok c.extend_from_slice.result in
    let more = grows ok old (length c.args.last) new c.extend_from_slice.ensures.len in (
      omega (arith, c.self.invariant.0, more.0),
      λ e. absurd (true≢false e),
      within_put c.self.inside.typed.items c.self.inside.sent old (length c.args.last) new ok c.self.invariant.2
          c.extend_from_slice.ensures.len,
    )
