use Rattle.std.proofs.Common.{◌≡◌, ◌-◌, ◌<◌, ◌≤◌, length, take, drop, sym, ◌∙◌, arith, inl, inr, ◌⊎◌}
use Rattle.session_core.proofs.Rests.{rest_from, within_rest, goes_on, ends}
use Rattle.session_core.proofs.session.Session.take_keys.Goals as goal

pub returns-then-read-eq0-clause-steps : goal.returns-then-read-eq0-clause-steps
returns-then-read-eq0-clause-steps c =
    let bytes = c.args.bytes.now in
    let rest = take (length bytes - c.steps.part) (drop c.steps.part bytes) in
    let last : (c.read_by-read.result ≡ 0) ⊎ (length rest ≤ c.read_by-read.result) = elim c.then-read-eq0.either
    [ inl none ↦ inl none | inr all ↦ inr all.1 ] in
    ends _ _ _ c.args.client c.steps.part bytes c.step-reply.new.notes _ _ _ c.step-reply.result c.read_by-read.result
    c.read_by-read.ensures c.steps.invariant.run
    rest (rest_from bytes c.steps.part)
    (c.step-reply.ensures.step (sym c.wants_memory.ensures ∙ c.if-wants_memory.false)) last

pub steps-preserved-else-rest-read : goal.steps-preserved-else-rest-read
steps-preserved-else-rest-read c =
    let bytes = c.args.bytes.now in
    let rest = take (length bytes - c.steps.part) (drop c.steps.part bytes) in
    let some : 0 < c.read_by-read.result = omega (arith, c.if-read-eq0.false) in
    let less : c.read_by-read.result < length rest = c.if-rest-read.false in
    record {
      within = within_rest bytes c.steps.part c.read_by-read.result less;
      run = goes_on _ _ _ c.args.client c.steps.part bytes c.step-reply.new.notes _ _ _ c.step-reply.result
          c.read_by-read.result c.read_by-read.ensures c.steps.invariant.run
          rest (rest_from bytes c.steps.part)
          (c.step-reply.ensures.step (sym c.wants_memory.ensures ∙ c.if-wants_memory.false)) some less;
    }
