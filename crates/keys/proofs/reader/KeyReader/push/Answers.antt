use Rattle.std.proofs.Common.{ap}
use Rattle.keys.proofs.Pushes.{items-push}
use Rattle.keys.proofs.reader.KeyReader.push.Goals as goal

pub returns-clause-stands : goal.returns-clause-stands
returns-clause-stands c = λ keys h. ap (λ p. p.1) (items-push c.args.key keys _ _ _ h c.step.ensures)

pub returns-clause-gives : goal.returns-clause-gives
returns-clause-gives c = λ keys h. ap (λ p. p.0) (items-push c.args.key keys _ _ _ h c.step.ensures)
