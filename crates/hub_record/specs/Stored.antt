-- What stored replies stand for.
use Rattle.std.specs.Prelude.{Result, Ok, Err}
use Rattle.std.specs.Global.{Box}
use Rattle.session.specs.refusal.Refusal.{Refusal}
use Rattle.hub_trail.specs.declared.kept.Finished.{Finished}
use Rattle.hub_trail.specs.Trails.{Ending}

-- the reply, whose refusal is in a block of memory
abbrev pub ending_in : Result Finished (Box Refusal) → Ending
ending_in (Ok finished) = Ok finished
ending_in (Err block) = Err block.value
