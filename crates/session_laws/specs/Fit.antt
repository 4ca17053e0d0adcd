-- Tables that are fit stay fit.
use Rattle.acl.specs.declared.leaders.Edition.{Edition}
use Rattle.acl.specs.declared.user_id.UserId.{UserId}
use Rattle.session_model.specs.Trace.{Entry, Trace}
use Rattle.session_model.specs.Tables.{Tables, fresh}
use Rattle.session_model.specs.Sound.{AreFit}
use Rattle.session_model.specs.Run.{after, tables_of}

-- new tables are fit, and so are the tables after each step and in each run
abbrev pub FreshIsFit : Type 0
FreshIsFit = (edition : Edition) (owner : UserId) → AreFit (fresh edition owner)

abbrev pub TablesStayFit : Type 0
TablesStayFit = (t : Tables) (e : Entry) → AreFit t → AreFit (after t e)

abbrev pub RunsAreFit : Type 0
RunsAreFit = (h : Trace) → AreFit (tables_of h)
