use Rattle.terminal_model.proofs.Places.{over-at, marked-at, blank-at}
use Rattle.terminal_model.proofs.laws.pages_at_places.Goals as goal

pub returns : goal.returns
returns c = record { over = over-at; marked = marked-at; blank_page = blank-at }
