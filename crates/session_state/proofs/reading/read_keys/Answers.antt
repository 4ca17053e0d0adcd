use Rattle.std.proofs.Common.{◌≡◌, ◌∙◌, sym, refl, arith, length, get_or}
use Rattle.session_state.proofs.Typing.{begins, goes_on, stops, ends}
use Rattle.session_state.proofs.reading.read_keys.Goals as goal

pub loop-i-init : goal.loop-i-init
loop-i-init c = λ past read.
    begins past c.args.keys.now c.args.reader.now c.new-typed.result c.new-typed.ensures read

pub loop-i-preserved : goal.loop-i-preserved
loop-i-preserved c = λ past read.
    goes_on past c.args.keys.now c.loop-i.i (get_or c.args.keys.now c.loop-i.i 0) c.loop-i.reader
    c.push-item.new.self c.loop-i.typed c.push_some.new.self c.push-item.result
    c.typed_byte.result c.loop-i-test.true refl (c.loop-i.invariant past read)
    c.push-item.ensures.stands c.push-item.ensures.gives c.typed_byte.ensures
    c.in_ok-push_some.ensures.ok
    (sym (c.is_order.ensures c.push-item.new.self.line) ∙ c.if-is_order.false)

pub returns-then-is_order : goal.returns-then-is_order
returns-then-is_order c = λ past read.
    stops past c.args.keys.now c.loop-i.i (get_or c.args.keys.now c.loop-i.i 0) c.loop-i.reader
    c.push-item.new.self c.loop-i.typed c.push_some.new.self c.push-item.result
    c.typed_byte.result c.loop-i-test.true refl (c.loop-i.invariant past read)
    c.push-item.ensures.stands c.push-item.ensures.gives c.typed_byte.ensures
    c.in_ok-push_some.ensures.ok
    (sym (c.is_order.ensures c.push-item.new.self.line) ∙ c.if-is_order.true)

pub returns : goal.returns
returns c = λ past read.
    let all : c.loop-i.i ≡ length c.args.keys.now = omega arith in
    ends past c.args.keys.now c.loop-i.i c.loop-i.typed c.loop-i.reader all
    (c.loop-i.invariant past read)
