use Rattle.std.proofs.Common.{arith, length, subst, sym, List, [], ◌∷◌, ◌++◌, ◌-◌}
use Rattle.std.specs.Result.{is_ok}
use Rattle.server_sending.specs.declared.typists.TypedFrame.{TypedFrame}
use Rattle.server_sending.specs.Written.{AreWithin}
use Rattle.server_sending.proofs.Typing.{grows, within_put, within_push}
use Rattle.server_sending.proofs.turn.Turn.put_frame.Goals as goal

pub invariant_of-self-in-Some : goal.invariant_of-self-in-Some
invariant_of-self-in-Some c =
    let sent = c.self.inside.sent in
    let typed = c.reserve-2.new.self.items in
    let from = c.len.result - sent in
    let f : TypedFrame = record {
      user = c.in-Some.user;
      from = from;
      len = (c.len-in-Some.result - sent) - from;
    } in
    let old = c.reserve.new.self.len in
    let mid = c.extend_from_slice.new.self.len in
    let new = c.extend_from_slice-2.new.self.len in
    let head = grows (is_ok c.extend_from_slice.result) old (length c.args.head) mid c.extend_from_slice.ensures.len in
    let more = grows (is_ok c.extend_from_slice-2.result) mid (length c.args.payload.now) new
    c.extend_from_slice-2.ensures.len in (
      omega (arith, c.self.invariant.0, c.reserve.ensures.len, head.0, more.0),
      λ e. omega (
        arith,
        c.in_ok-reserve.ensures.ok,
        c.reserve.ensures.len,
        head.1,
        more.1,
        c.extend_from_slice.ensures.capacity,
        c.extend_from_slice-2.ensures.capacity,
      ),
      subst (λ (l : List TypedFrame). AreWithin 0 l (new - sent)) (sym c.push_reserved.ensures.items)
          (subst (AreWithin 0 (typed ++ f ∷ []))
          (omega (
            arith,
            c.self.invariant.0,
            c.reserve.ensures.len,
            head.0,
            more.0,
            c.len.ensures,
            c.len-in-Some.ensures,
          ))
          (within_push 0 typed f (old - sent)
          (subst (λ (l : List TypedFrame). AreWithin 0 l (old - sent)) (sym c.reserve-2.ensures.items)
          (subst (λ n. AreWithin 0 c.self.inside.typed.items (n - sent)) (sym c.reserve.ensures.len)
          c.self.invariant.2))
          (omega (arith, c.len.ensures)))),
    )

pub invariant_of-self-in_default : goal.invariant_of-self-in_default
invariant_of-self-in_default c =
    let sent = c.self.inside.sent in
    let typed = c.reserve-2.new.self.items in
    let old = c.reserve.new.self.len in
    let mid = c.extend_from_slice.new.self.len in
    let new = c.extend_from_slice-2.new.self.len in
    let ok = is_ok c.extend_from_slice.result in
    let ok_2 = is_ok c.extend_from_slice-2.result in
    let head = grows ok old (length c.args.head) mid c.extend_from_slice.ensures.len in
    let more = grows ok_2 mid (length c.args.payload.now) new c.extend_from_slice-2.ensures.len in (
      omega (arith, c.self.invariant.0, c.reserve.ensures.len, head.0, more.0),
      λ e. omega (
        arith,
        c.in_ok-reserve.ensures.ok,
        c.reserve.ensures.len,
        head.1,
        more.1,
        c.extend_from_slice.ensures.capacity,
        c.extend_from_slice-2.ensures.capacity,
      ),
      within_put typed sent mid (length c.args.payload.now) new ok_2
          (within_put typed sent old (length c.args.head) mid ok
          (subst (λ (l : List TypedFrame). AreWithin 0 l (old - sent)) (sym c.reserve-2.ensures.items)
          (subst (λ n. AreWithin 0 c.self.inside.typed.items (n - sent)) (sym c.reserve.ensures.len)
          c.self.invariant.2))
          c.extend_from_slice.ensures.len) c.extend_from_slice-2.ensures.len,
    )
