use Rattle.std.proofs.Common.{[], arith, ap, ◌∙◌, get_or, set}
use Rattle.std.proofs.lemmas.List.{get_or_default}
use Rattle.std.proofs.lemmas.List.Edits.{map_over_more}
use Rattle.server_sending.specs.declared.typists.TypedFrame.{TypedFrame}
use Rattle.server_sending.specs.Written.{moved_up}
use Rattle.server_sending.proofs.typists.move_up.Goals as goal

pub loop-i-preserved : goal.loop-i-preserved
loop-i-preserved c =
    let f : TypedFrame =
    get_or c.loop-i.frames c.loop-i.i (record { user = record { name = [] }; from = 0; len = 0 }) in
    ap (λ n. set c.loop-i.frames c.loop-i.i (record f { from = n })) c.saturating_sub.ensures
    ∙ map_over_more (moved_up c.args.written) c.args.frames.now c.loop-i.frames c.loop-i.i f (omega arith)
    c.loop-i.invariant (get_or_default c.loop-i.frames c.loop-i.i _ f (omega arith))
