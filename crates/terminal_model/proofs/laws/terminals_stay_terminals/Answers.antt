use Rattle.terminal_model.proofs.Terminals.{IsTerminal-ready, IsTerminal-reads, IsTerminal-writes_all}
use Rattle.terminal_model.proofs.laws.terminals_stay_terminals.Goals as goal

pub returns : goal.returns
returns c = record { ready = IsTerminal-ready; reading = IsTerminal-reads; writing = IsTerminal-writes_all }
