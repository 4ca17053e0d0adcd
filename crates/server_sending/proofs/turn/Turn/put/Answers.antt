use Rattle.std.proofs.Common.{arith, length, subst, sym, ◌-◌}
use Rattle.std.specs.Result.{is_ok}
use Rattle.server_sending.specs.Written.{AreWithin}
use Rattle.server_sending.proofs.Typing.{grows, within_put}
use Rattle.server_sending.proofs.turn.Turn.put.Goals as goal

pub invariant_of-self-2 : goal.invariant_of-self-2
invariant_of-self-2 c =
    let sent = c.self.inside.sent in
    let typed = c.self.inside.typed.items in
    let old = c.reserve.new.self.len in
    let new = c.extend_from_slice.new.self.len in
    let ok = is_ok c.extend_from_slice.result in
    let more = grows ok old (length c.args.bytes.now) new c.extend_from_slice.ensures.len in (
      omega (arith, c.self.invariant.0, c.reserve.ensures.len, more.0),
      λ e. omega (
        arith,
        c.in_ok-reserve.ensures.ok,
        c.reserve.ensures.len,
        more.1,
        c.extend_from_slice.ensures.capacity,
      ),
      within_put typed sent old (length c.args.bytes.now) new ok
          (subst (λ n. AreWithin 0 typed (n - sent)) (sym c.reserve.ensures.len) c.self.invariant.2)
          c.extend_from_slice.ensures.len,
    )
