use Rattle.std.proofs.Common.{rules, ◌≡◌, true}
use Rattle.std.proofs.Math.Logic.{∥∥₁_elim, ∥∥₁_map, ∥∥₁_prop}
use Rattle.std.specs.Prelude.{is_none}
use Rattle.server_trail.proofs.Runs.{is_written, sent_on}
use Rattle.server_trail.proofs.recorder.Recorder.write_all.Goals as goal

pub returns-in-Some-written : goal.returns-in-Some-written
returns-in-Some-written g c = ∥∥₁_elim c.writes.invariant ∥∥₁_prop (λ h. ∥∥₁_map c.write_ready-torn.ensures (λ s.
    is_written c.writes.sent c.write_ready-torn.new.sent _ _ _ _ c.in-Some-written.written h s
    c.in-Some-written.ensures.sent))

pub writes-preserved : goal.writes-preserved
writes-preserved g c =
    let none : is_none c.write_ready-torn.result ≡ true = search rules in
    ∥∥₁_elim c.writes.invariant ∥∥₁_prop (λ h. ∥∥₁_map c.write_ready-torn.ensures (λ s.
    sent_on c.writes.sent c.write_ready-torn.new.sent _ _ _ _ _ h s none c.sync.ensures.bytes))
