-- What sessions show if their runs differ only in output that is hidden from a user.
use Rattle.std.specs.Prelude.{◌≡◌}
use Rattle.acl.specs.declared.user_id.UserId.{UserId}
use Rattle.session_model.specs.Trace.{Trace}
use Rattle.session_model.specs.Tables.{Tables, fresh}
use Rattle.session_laws.specs.Hidden.{unhidden}
use Rattle.session_laws.specs.Observed.{observations}
use Rattle.session_core.specs.Stands.{StandsFor}
use Rattle.session_core.specs.declared.session.Session.{Session}

abbrev pub beginning : Trace → Tables
beginning h = fresh h.edition h.owner

-- two sessions of one edition and owner, whose runs have the same events but for output that is hidden
-- from a user: that user observed the same of both
abbrev pub SessionsHideOutput : Type 0
SessionsHideOutput =
    (user : UserId) (one other : Session) (h g : Trace) →
    StandsFor h one → StandsFor g other → h.edition ≡ g.edition → h.owner ≡ g.owner →
    unhidden user (beginning h) h.entries ≡ unhidden user (beginning g) g.entries →
    observations user (beginning h) h.entries ≡ observations user (beginning g) g.entries
