use Rattle.hub_check.proofs.Vocabulary.{◌≡◌, Bool, true, subst, sym, ◌↔◌, IsReading, FitsLine}
use Rattle.hub_trail.specs.declared.kept.Kept.TheVariants as kept
use Rattle.hub_check.proofs.Judged.{no_command, one_fits}
use Rattle.hub_check.proofs.commands.fits_text.Goals as goal

pub returns-in-Some : goal.returns-in-Some
returns-in-Some c = λ edition h window s.
    let reading = subst (IsReading c.args.given.line.now) c.in-Some.is c.in_ok-command.ensures in
    let fits = one_fits c.args.owner h c.args.given.user window c.args.given.line.now c.in-Some.command
    c.args.entry.now reading in
    let told = c.fits_command.ensures edition h s in
    (λ is. fits.0 (told.0 is), λ all. told.1 (fits.1 all))

pub returns-in-None : goal.returns-in-None
returns-in-None c = λ edition h window s.
    let reading = subst (IsReading c.args.given.line.now) c.in-None.is c.in_ok-command.ensures in
    let owner = c.args.owner in
    let event = kept.Command c.args.given.user window c.args.given.line.now in
    subst (λ (b : Bool). (b ≡ true) ↔ FitsLine owner h event c.args.entry.now) (sym c.is_refused.ensures)
    (no_command owner h c.args.given.user window c.args.given.line.now c.args.entry.now reading)
