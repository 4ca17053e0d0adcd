use Rattle.std.proofs.Common.{◌≡◌, Option, None, false, sym, subst, true}
use Rattle.std.proofs.Math.Logic.{∥∥₁_map}
use Rattle.std.specs.Prelude.{is_none}
use Rattle.server_trail.specs.Runs.{HasSent}
use Rattle.server_trail.specs.declared.waiting.Torn.{Torn}
use Rattle.server_trail.proofs.Runs.{none_sent, text_sent}
use Rattle.server_trail.proofs.recorder.Recorder.write_ready.Goals as goal

pub returns-then-bytes-eq0 : goal.returns-then-bytes-eq0
returns-then-bytes-eq0 g c = ∣ none_sent c.args.sent.now (g.F.Write.contents c.args.file.now) ∣₁

pub returns-in_err-text : goal.returns-in_err-text
returns-in_err-text g c =
    let none : c.from_residual.result ≡ None = c.from_residual.ensures in
    let at = g.F.Write.contents c.args.file.now in
    ∣ subst (λ (o : Option Torn). HasSent c.args.sent.now c.args.sent.now at at (is_none o)) (sym none)
    (none_sent c.args.sent.now at) ∣₁

pub returns-in-Ok : goal.returns-in-Ok
returns-in-Ok g c = ∥∥₁_map c.in_ok-text.ensures.lines (λ run.
    text_sent c.args.sent.now c.in_ok-text.text.next c.in-Ok.next c.in_ok-text.text.bytes.items _ _ true run
    c.in-Ok.ensures.writes (λ auto. sym c.in-Ok.ensures.next))

pub returns-in-Err : goal.returns-in-Err
returns-in-Err g c = ∥∥₁_map c.in_ok-text.ensures.lines (λ run.
    text_sent c.args.sent.now c.in_ok-text.text.next c.args.sent.now c.in_ok-text.text.bytes.items _ _ false run
    c.in-Err.ensures.writes (λ no. cc))
