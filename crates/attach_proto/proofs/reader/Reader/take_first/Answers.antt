use Rattle.std.proofs.Common.{List, ℕ, ◌++◌, ◌-◌, length, take, drop, ap, sym, ◌∙◌}
use Rattle.std.proofs.lemmas.List.{take_rest}
use Rattle.attach_proto.specs.Streams.{Reading}
use Rattle.attach_proto.proofs.Joining.{taken_piece}
use Rattle.attach_proto.proofs.reader.Reader.take_first.Goals as goal

pub returns-in-Ok-clause-ok : goal.returns-in-Ok-clause-ok
returns-in-Ok-clause-ok c =
    let piece = c.args.piece.now in
    let bytes = ap (λ (waits : List ℕ). waits ++ piece) (sym c.requires.1) in
    let left = length piece - c.in_ok-run.run'.taken in
    let rest = c.in_ok-extend_from_slice.ensures.items
    ∙ ap (λ (waits : List ℕ). waits ++ take left (drop c.in_ok-run.run'.taken piece))
    (ap (λ (r : Reading). r.rest) c.self.view_is ∙ c.requires.1) ∙ take_rest piece c.in_ok-run.run'.taken in (
      c.in_ok-run.run'.messages.items,
      c.in-Ok.ensures.items,
      taken_piece c.args.self.now c.self.inside.side piece piece c.extend_from_slice.new.self.items
          c.in_ok-run.run'.messages.items c.in_ok-run.run'.taken c.in_ok-run.run'.fault
          (ap (λ (r : Reading). r.side) c.self.view_is) bytes rest c.requires.0 c.in_ok-run.ensures,
    )
