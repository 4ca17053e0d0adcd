use Rattle.std.proofs.Common.{arith, sym, ◌∙◌}
use Rattle.websocket.specs.Headers.{fields_of}
use Rattle.web_requests.specs.Serving.{values}
use Rattle.web_requests.proofs.Serving.{second, first, other, last}
use Rattle.web_requests.proofs.requests.value_of.Goals as goal
use Rattle.web_requests.proofs.requests.value_of.Goals.{then-is_named+else-is_some, else-is_named}

pub returns-then-is_some : goal.returns-then-is_some
returns-then-is_some c =
    second c.args.head.now c.args.spans.now c.loop-span.span-index c.args.name.now
    (values (fields_of c.args.head.now c.args.spans.now) c.args.name.now) c.loop-span.found (omega arith)
    (sym c.is_named.ensures ∙ c.if-is_named.true) (cc) c.loop-span.invariant

pub loop-span-preserved : goal.loop-span-preserved
loop-span-preserved c =
    elim c.if-is_named.branch [
      | then-is_named+else-is_some w ↦ rw w.found-is
          (first c.args.head.now c.args.spans.now c.loop-span.span-index c.args.name.now w.of.result.now
          (values (fields_of c.args.head.now c.args.spans.now) c.args.name.now) c.loop-span.found (omega arith)
          (sym c.is_named.ensures ∙ w.if-is_named.true) (cc) w.of.ensures c.loop-span.invariant)
      | else-is_named w ↦ rw w.found-is
          (other c.args.head.now c.args.spans.now c.loop-span.span-index c.args.name.now
          (values (fields_of c.args.head.now c.args.spans.now) c.args.name.now) c.loop-span.found (omega arith)
          (sym c.is_named.ensures ∙ w.if-is_named.false) c.loop-span.invariant)
    ]

pub returns : goal.returns
returns c =
    last c.args.head.now c.args.spans.now c.loop-span.span-index c.args.name.now
    (values (fields_of c.args.head.now c.args.spans.now) c.args.name.now) c.loop-span.found (omega arith)
    c.loop-span.invariant
