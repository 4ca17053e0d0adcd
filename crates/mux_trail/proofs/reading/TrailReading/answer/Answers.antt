use Rattle.std.proofs.Common.{ℕ, List, Option, subst}
use Rattle.std.specs.Io.KnownBytes.{Appends}
use Rattle.std.specs.Prelude.{IfSome}
use Rattle.mux_trail.specs.Answers.{IsText}
use Rattle.mux_trail.proofs.reading.TrailReading.answer.Goals as goal

pub returns : goal.returns
returns g c = λ edition said w.
    let r = c.args.self.now in
    let out = c.push.new.out.items in
    let is = subst (λ (o : Option ℕ). IfSome o (λ status. IsText c.args.asked edition r said status
    c.new-text.result.items out)) c.in-Some.is (c.in_ok-status.ensures edition said w) in (
      out,
      subst (λ (old : List ℕ). IsText c.args.asked edition r said c.in-Some.status old out) c.new-text.ensures.items is,
      subst (Appends (g.W.Write.contents c.args.output.now) (g.W.Write.contents c.write_all.new.self))
          c.as_slice.ensures.value c.in_ok-write_all.ensures.bytes,
    )
