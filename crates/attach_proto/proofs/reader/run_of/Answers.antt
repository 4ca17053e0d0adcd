use Rattle.std.proofs.Common.{sym, ◌∙◌, arith}
use Rattle.std.proofs.lemmas.List.{take_rest}
use Rattle.attach_proto.proofs.Rests.{front_waits, front_fault}
use Rattle.attach_proto.proofs.Joining.{here, one_more, taken_fits}
use Rattle.attach_proto.proofs.reader.run_of.Goals as goal

pub overflow_add-taken : goal.overflow_add-taken
overflow_add-taken c =
    let f = here c.args.side c.args.bytes.now c.frames.taken c.in_ok-front_of.field-0 c.in-Whole.message c.in-Whole.len
    (λ i. omega (arith, c.type_inv.bytes i)) c.in_ok-front_of.ensures c.in-Whole.is in
    let t = taken_fits c.args.side c.args.bytes.now c.frames.taken c.in-Whole.message c.in-Whole.len
    c.frames.invariant.within f in
    omega (arith, t.0)

pub frames-smaller : goal.frames-smaller
frames-smaller c =
    let f = here c.args.side c.args.bytes.now c.frames.taken c.in_ok-front_of.field-0 c.in-Whole.message c.in-Whole.len
    (λ i. omega (arith, c.type_inv.bytes i)) c.in_ok-front_of.ensures c.in-Whole.is in
    let t = taken_fits c.args.side c.args.bytes.now c.frames.taken c.in-Whole.message c.in-Whole.len
    c.frames.invariant.within f in
    omega (arith, t.0, t.1)

pub frames-preserved : goal.frames-preserved
frames-preserved c =
    let f = here c.args.side c.args.bytes.now c.frames.taken c.in_ok-front_of.field-0 c.in-Whole.message c.in-Whole.len
    (λ i. omega (arith, c.type_inv.bytes i)) c.in_ok-front_of.ensures c.in-Whole.is in
    let t = taken_fits c.args.side c.args.bytes.now c.frames.taken c.in-Whole.message c.in-Whole.len
    c.frames.invariant.within f in
    record {
      within = t.0;
      splits = rw c.in_ok-push-in-Whole.ensures.items
          (one_more c.args.side c.args.bytes.now c.frames.messages.items c.frames.taken c.in-Whole.message
          c.in-Whole.len c.frames.invariant.splits f);
    }

pub returns-in-Part : goal.returns-in-Part
returns-in-Part c = record {
  within = c.frames.invariant.within;
  splits = c.frames.invariant.splits;
  behind = rw (take_rest c.args.bytes.now c.frames.taken) at
      (front_waits c.args.side _ (sym c.in_ok-front_of.ensures ∙ c.in-Part.is));
}

pub returns-in-Broken : goal.returns-in-Broken
returns-in-Broken c = record {
  within = c.frames.invariant.within;
  splits = c.frames.invariant.splits;
  behind = rw (take_rest c.args.bytes.now c.frames.taken) at
      (front_fault c.args.side _ c.in-Broken.fault (sym c.in_ok-front_of.ensures ∙ c.in-Broken.is));
}
