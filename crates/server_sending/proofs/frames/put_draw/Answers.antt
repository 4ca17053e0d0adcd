use Rattle.std.proofs.Common.{◌≡◌, ◌∙◌, ◌++◌, ◌<◌, ◌⊎◌, [], List, ℕ, None, ap, sym, arith, refl, append_assoc}
use Rattle.std.proofs.Common.{length, subst}
use Rattle.std.proofs.lemmas.Result.{on_ok_weaker}
use Rattle.attach_proto.specs.declared.kind.Kind.TheVariants as kind
use Rattle.server_sending.specs.Written.{Waiting, with_frame}
use Rattle.server_sending.specs.Frames.{PutsDraw, PutsFrames}
use Rattle.server_sending.proofs.Drawing.{all_frames, begins_not, ends, goes_on}
use Rattle.server_sending.proofs.frames.put_draw.Goals as goal

pub pieces-init : goal.pieces-init
pieces-init c = record {
  done = [];
  whole = refl;
  begins = begins_not c.args.turn.now;
  ends = λ h. h;
}

pub pieces-preserved : goal.pieces-preserved
pieces-preserved c =
    let so_far = c.pieces.invariant in
    let piece = c.split_at.result.0.now in
    let later = c.split_at.result.1.now in
    record {
      done = so_far.done ++ piece;
      whole = append_assoc so_far.done piece later
          ∙ ap (λ xs. so_far.done ++ xs) (sym c.split_at.ensures.by_index.0) ∙ so_far.whole;
      begins = goes_on so_far.done piece _ _ _ _ so_far.begins
          (subst (λ n. (n ≡ 1) ⊎ (n ≡ 8192)) (sym c.split_at.ensures.front_len) c.next_len.ensures.goes_on)
          c.head_of.ensures c.in_ok-put_frame.ensures.ok;
      ends = λ some. omega (arith, c.split_at.ensures.back_len, c.next_len.ensures.leaves);
    }

pub returns-clause-ok : goal.returns-clause-ok
returns-clause-ok c =
    let so_far = c.pieces.invariant in
    let before : Waiting = c.pieces.turn in
    let after : Waiting = c.put_frame-2.new.self in
    let made : List ℕ = c.head_of-2.result ++ c.pieces.rest.now in
    on_ok_weaker {P = after ≡ with_frame None made before}
    {Q = PutsFrames kind.Draw None c.args.bytes.now c.args.turn.now after} c.put_frame-2.result
    (λ put. all_frames _ _ _ _ _ _ _ so_far.whole so_far.begins (omega arith) c.head_of-2.ensures put
    (grind arith)) c.put_frame-2.ensures.ok

pub returns-clause-ends : goal.returns-clause-ends
returns-clause-ends c =
    let so_far = c.pieces.invariant in
    let before : Waiting = c.pieces.turn in
    let after : Waiting = c.put_frame-2.new.self in
    let made : List ℕ = c.head_of-2.result ++ c.pieces.rest.now in
    on_ok_weaker {P = after ≡ with_frame None made before}
    {Q = 1 < length c.args.bytes.now → PutsDraw c.args.bytes.now c.args.turn.now after} c.put_frame-2.result
    (λ put some. ends _ _ _ _ _ _ _ so_far.whole so_far.begins (omega arith) c.head_of-2.ensures put
    (so_far.ends some)) c.put_frame-2.ensures.ok
