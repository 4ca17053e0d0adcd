use Rattle.session_core.proofs.calls_are_guarded.Goals as goal
use Rattle.session_core.proofs.Guarding.{calls, new_runs}

pub returns-clause-call : goal.returns-clause-call
returns-clause-call c =
    calls (record {
      gate = c.rights_are_gated.ensures;
      contain = c.guests_are_contained.ensures;
      masks = c.new_windows_are_masked.ensures;
      hold = c.locks_are_taken.ensures.step;
      runs_hold = c.locks_are_taken.ensures.run;
      taken = c.locks_are_taken.ensures.taken;
      mode = c.others_are_gated.ensures.mode;
      clients = c.others_are_gated.ensures.clients;
      stay = c.holders_stay.ensures;
      names = c.others_are_gated.ensures.windows;
      fit = c.tables_stay_fit.ensures.run;
      watching = c.spectators_leave_others.ensures;
    })

pub returns-clause-new : goal.returns-clause-new
returns-clause-new c =
    new_runs (record {
      gate = c.rights_are_gated.ensures;
      contain = c.guests_are_contained.ensures;
      masks = c.new_windows_are_masked.ensures;
      hold = c.locks_are_taken.ensures.step;
      runs_hold = c.locks_are_taken.ensures.run;
      taken = c.locks_are_taken.ensures.taken;
      mode = c.others_are_gated.ensures.mode;
      clients = c.others_are_gated.ensures.clients;
      stay = c.holders_stay.ensures;
      names = c.others_are_gated.ensures.windows;
      fit = c.tables_stay_fit.ensures.run;
      watching = c.spectators_leave_others.ensures;
    })
