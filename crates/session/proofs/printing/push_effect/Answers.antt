use Rattle.session.proofs.printing.push_effect.Goals as goal

pub returns-in-Client : goal.returns-in-Client
returns-in-Client c = rw (c.in-Gone.is, c.in-Client.is) c.push_gone-in-Client.ensures
