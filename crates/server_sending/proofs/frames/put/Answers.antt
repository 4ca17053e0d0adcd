use Rattle.server_sending.proofs.frames.put.Goals as goal

pub returns-in_ok-put_draw-in-Draw-clause-ok : goal.returns-in_ok-put_draw-in-Draw-clause-ok
returns-in_ok-put_draw-in-Draw-clause-ok c =
    rw c.in-Draw.is c.in_ok-put_draw-in-Draw.ensures.ok

pub returns-in_ok-put_draw-in-Draw-clause-ends : goal.returns-in_ok-put_draw-in-Draw-clause-ends
returns-in_ok-put_draw-in-Draw-clause-ends c =
    rw c.in-Draw.is c.in_ok-put_draw-in-Draw.ensures.ends

pub returns-in_ok-put_frames-in-Input-clause-ok : goal.returns-in_ok-put_frames-in-Input-clause-ok
returns-in_ok-put_frames-in-Input-clause-ok c =
    rw c.in-Input.is c.in_ok-put_frames-in-Input.ensures.ok
