use Rattle.std.proofs.Common.{Option, refl, subst, sym}
use Rattle.trail_setup.specs.declared.state.SetupState.{SetupState}
use Rattle.mux_trail.specs.Answers.{IsSetup}
use Rattle.mux_trail.proofs.reading.TrailReading.push_setup.Goals as goal

pub returns : goal.returns
returns c = λ edition said w. (
  refl,
  subst (λ (s : Option SetupState). IsSetup edition c.args.self.now.owner said s c.args.out.now.items
      c.push_setup.new.out.items) (sym c.in-Some.is)
      (λ h stands. c.in_ok-push_setup.ensures edition c.args.self.now.owner said h w stands),
)
