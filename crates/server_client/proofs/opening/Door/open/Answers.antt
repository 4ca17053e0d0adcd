use Rattle.std.proofs.Common.{refl, subst, ℕ, List}
use Rattle.server_client.proofs.opening.Door.open.Goals as goal

pub returns-in-Ok-begin : goal.returns-in-Ok-begin
returns-in-Ok-begin g c = (
  subst (λ (s : List ℕ). (g.R.Connects.disk c.args.rt.now).reached s c.in-Ok.stream) c.as_str.ensures.value
      c.in-Ok.ensures,
  c.if-not-is_at_session.ensures refl,
  c.in-Ok-begin.ensures,
)
