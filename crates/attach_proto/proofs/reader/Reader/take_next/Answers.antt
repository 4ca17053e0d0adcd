use Rattle.std.proofs.Common.{List, ℕ, ◌++◌, drop, ap, sym, ◌∙◌}
use Rattle.attach_proto.specs.Streams.{Reading}
use Rattle.attach_proto.proofs.Joining.{taken_piece, run_faults}
use Rattle.attach_proto.proofs.reader.Reader.take_next.Goals as goal

pub returns-in-Ok-clause-ok : goal.returns-in-Ok-clause-ok
returns-in-Ok-clause-ok c =
    let made = c.in-Ok.ensures.ok in
    let items = c.deref.ensures.value ∙ c.in_ok-extend_from_slice.ensures.items
    ∙ ap (λ (r : Reading). r.rest ++ c.args.piece.now) c.self.view_is in
    let rest = c.drop_front.ensures ∙ ap (λ (b : List ℕ). drop c.in-Ok.taken b) (sym c.deref.ensures.value) in (
      made.0,
      made.1,
      taken_piece c.args.self.now c.self.inside.side c.args.piece.now c.deref.result.now c.drop_front.new.bytes.items
          made.0 c.in-Ok.taken c.in-Ok.fault
          (ap (λ (r : Reading). r.side) c.self.view_is) items rest c.requires made.2,
    )

pub returns-in-Ok-clause-fault : goal.returns-in-Ok-clause-fault
returns-in-Ok-clause-fault c = run_faults _ _ _ c.in-Ok.ensures.ok.2.behind
