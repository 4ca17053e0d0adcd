use Rattle.client_words.proofs.Standing.{stands-nil}
use Rattle.client_words.proofs.size_lines.SizeLines.new.Goals as goal

pub returns : goal.returns
returns c = stands-nil _ c.new.ensures.items (search)
