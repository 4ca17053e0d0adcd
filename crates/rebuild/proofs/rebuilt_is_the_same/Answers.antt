use Rattle.std.proofs.Common.{ap}
use Rattle.terminal_model.specs.Reading.{Terminal, reads}
use Rattle.rebuild.specs.Rebuilt.{rebuilt}
use Rattle.rebuild.proofs.Same.{terminal-same}
use Rattle.rebuild.proofs.rebuilt_is_the_same.Goals as goal

pub returns-clause-terminal : goal.returns-clause-terminal
returns-clause-terminal c = λ e bytes t b h s. terminal-same e (rebuilt e bytes).terminal t b h.stands s

pub returns-clause-later : goal.returns-clause-later
returns-clause-later c = λ e bytes later t b h s.
    ap (λ (u : Terminal). reads u later) (terminal-same e (rebuilt e bytes).terminal t b h.stands s)
