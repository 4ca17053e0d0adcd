use Rattle.std.proofs.Common.{◌≡◌, arith, subst, sym}
use Rattle.std.proofs.lemmas.Grind.{common_steps}
use Rattle.client_typing.specs.Fitting.{IsLine}
use Rattle.client_typing.specs.Own.{view_command}
use Rattle.client_typing.proofs.Fitting.{view-line}
use Rattle.client_typing.proofs.typing.Typing.scroll.Goals as goal

pub returns-clause-rests : goal.returns-clause-rests
returns-clause-rests c = λ rests.
    let line : c.as_bytes.result.now ≡ view_command c.args.back = grind (arith, common_steps) in
    c.in_ok-give.ensures.rests (subst IsLine (sym line) (view-line c.args.back (omega arith))) rests
