use Rattle.std.proofs.Common.{◌++◌, take, ap, ◌∙◌, arith, append-nil}
use Rattle.std.proofs.lemmas.List.{take_rest}
use Rattle.server_trail.proofs.Files.{both, two_parts}
use Rattle.server_trail.proofs.writing.write_bytes.Goals as goal

pub writes-preserved : goal.writes-preserved
writes-preserved g c = record {
  within = c.writes.invariant.within;
  front = both _ _ _ (take c.writes.sent c.args.bytes.now) _ _ c.writes.invariant.front c.in-Err.ensures.refused
      (append-nil _);
}

pub writes-preserved-in-Ok : goal.writes-preserved-in-Ok
writes-preserved-in-Ok g c =
    let bytes = c.args.bytes.now in
    record {
      within = omega (arith, c.in-Ok.ensures.bound);
      front = both _ _ _ (take c.writes.sent bytes) _ _ c.writes.invariant.front c.in-Ok.ensures.writes
          (ap (λ l. take c.writes.sent bytes ++ take c.in-Ok.count l) (take_rest bytes c.writes.sent)
          ∙ two_parts bytes c.writes.sent c.in-Ok.count);
    }
