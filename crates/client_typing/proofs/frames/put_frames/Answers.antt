use Rattle.std.proofs.Common.{◌++◌, ap, ◌∙◌, arith}
use Rattle.std.proofs.lemmas.List.{append_assoc}
use Rattle.client_typing.proofs.Framing.{sends-more, cut-whole}
use Rattle.client_typing.proofs.frames.put_frames.Goals as goal

pub pieces-preserved : goal.pieces-preserved
pieces-preserved c =
    let front = c.pieces.invariant.front in
    let piece = c.split_at.result.0.now in
    let later = c.split_at.result.1.now in
    record {
      front = front ++ piece;
      sends =
          sends-more c.args.frames.now.items c.pieces.frames.items c.put_frame.new.frames.items c.args.kind front piece
          c.pieces.invariant.sends (omega (arith, c.split_at.ensures.front_len, c.min.ensures))
          c.in_ok-put_frame.ensures.ok;
      whole =
          append_assoc front piece later
          ∙ ap (λ x. front ++ x)
          (cut-whole c.min.result c.pieces.rest.now piece later c.split_at.ensures.front c.split_at.ensures.back)
          ∙ c.pieces.invariant.whole;
    }
