use Rattle.hub_check.proofs.Vocabulary.{◌≡◌, ℕ, Bool, List, true, sym, subst, ◌↔◌, IfOk-weaker, Kept, FitsLine}
use Rattle.hub_trail.specs.declared.kept.Kept.TheVariants as kept
use Rattle.hub_check.proofs.commands.fits_line.Goals as goal

pub returns-in-Command : goal.returns-in-Command
returns-in-Command c = IfOk-weaker c.fits_text.result _ _
    (λ (b : Bool) f edition h s. subst
    (λ (x : Kept). (b ≡ true) ↔ FitsLine c.args.owner h x c.args.entry.now) (sym c.in-Command.is)
    (subst (λ (line : List ℕ). (b ≡ true)
    ↔ FitsLine c.args.owner h (kept.Command c.in-Command.user c.in-Command.window line) c.args.entry.now)
    c.as_slice.ensures (f edition h c.in-Command.window s)))
    c.fits_text.ensures
