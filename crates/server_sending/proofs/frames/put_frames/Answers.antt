use Rattle.std.proofs.Common.{◌∙◌, ◌++◌, [], ap, sym, arith, rules, append_assoc}
use Rattle.std.specs.Slice.Iter.{chunks_rest}
use Rattle.server_sending.specs.Frames.{IsPiece}
use Rattle.server_sending.proofs.Framing.{none_put, one_more}
use Rattle.server_sending.proofs.frames.put_frames.Goals as goal

pub loop-piece-init : goal.loop-piece-init
loop-piece-init c = (
  search rules,
  tt,
  search rules,
  [],
  search rules,
  none_put c.args.kind c.args.typist
      c.args.turn.now,
)

pub loop-piece-preserved : goal.loop-piece-preserved
loop-piece-preserved c =
    let so_far = c.loop-piece.invariant in
    let done = so_far.3 in
    let steps = c.in-Some.ensures.steps in
    let piece = c.in-Some.piece.now in
    let size = so_far.2 in
    let fits : IsPiece piece = (omega (arith, steps.1.1, steps.1.2, size), omega (arith, steps.1.1, size)) in (
      search rules,
      tt,
      steps.0 ∙ size,
      done ++ piece,
      append_assoc done piece (chunks_rest c.next.new.self) ∙ ap (λ xs. done ++ xs) (sym steps.1.0) ∙ so_far.4,
      one_more c.args.kind c.args.typist done piece _ _ _ _ so_far.5 fits c.head_of.ensures
          c.in_ok-put_frame.ensures.ok,
    )
