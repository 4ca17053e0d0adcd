use Rattle.std.proofs.Common.{arith, ⊎_elim}
use Rattle.view.proofs.Writing.{stays, shows_none, shows_widest}
use Rattle.view.proofs.text.visible.Goals as goal

pub returns-then-width-le2 : goal.returns-then-width-le2
returns-then-width-le2 c = stays c.width.result c.args.character c.width.ensures.value
    (omega (arith, c.unwrap_or-width.ensures)) (omega (arith, c.unwrap_or-width.ensures))

pub returns-else-width-gt0 : goal.returns-else-width-gt0
returns-else-width-gt0 c = ⊎_elim
    (λ wide. shows_widest c.width.result c.args.character c.width.ensures.value
    (omega (arith, c.unwrap_or-width.ensures, wide.1)) c.width.ensures.bound)
    (λ none. shows_none c.width.result c.args.character c.width.ensures.value
    (omega (arith, c.unwrap_or-width.ensures, none)))
    c.else-width-gt0.either
