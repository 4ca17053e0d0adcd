use Rattle.session_laws.proofs.guests.spectators_leave_others.Goals as goal
use Rattle.session_laws.proofs.OthersOfSpectators.{leaves_others}

pub returns : goal.returns
returns c t e user fit hold step by watches = leaves_others
    (record { stay = c.holders_stay.ensures; taken = c.locks_are_taken.ensures.taken }) t e user fit hold step by
    watches
