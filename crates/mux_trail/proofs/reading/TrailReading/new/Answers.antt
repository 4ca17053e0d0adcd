use Rattle.std.proofs.Common.{[], refl, subst, sym, false}
use Rattle.trail_log.specs.Naming.{Names}
use Rattle.mux_trail.specs.History.{IsNoted, Noted}
use Rattle.mux_trail.proofs.reading.TrailReading.new.Goals as goal

pub returns : goal.returns
returns c = record {
  owner_is = refl;
  asked_is = refl;
  watched = c.in_ok-new.ensures.watched;
  noted_so = subst (λ (n : Noted). IsNoted c.args.asked c.args.edition c.args.owner [] c.new-2.result n)
      (sym c.new-3.ensures) (subst (λ (m : Names). IsNoted c.args.asked c.args.edition c.args.owner [] m (false, []))
      (sym c.new-2.ensures) IsNoted.none);
  first = c.in_ok-state_for.field-0;
  is_first = c.in_ok-state_for.ensures;
  followed = refl;
}
