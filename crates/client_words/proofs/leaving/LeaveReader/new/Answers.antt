use Rattle.client_words.proofs.Pairs.{reads-nothing}
use Rattle.client_words.proofs.leaving.LeaveReader.new.Goals as goal

pub returns-clause-stands : goal.returns-clause-stands
returns-clause-stands c = reads-nothing c.args.byte
