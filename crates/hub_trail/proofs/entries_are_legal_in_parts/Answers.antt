use Rattle.hub_trail.proofs.Runs.{legal_append, legal_parts}
use Rattle.hub_trail.proofs.entries_are_legal_in_parts.Goals as goal

pub returns : goal.returns
returns c = λ edition owner h es fs.
    (legal_parts edition owner h es fs, λ parts. legal_append edition owner h es fs parts.0 parts.1)
