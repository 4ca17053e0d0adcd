-- Hidden output is unseen.
use Rattle.std.specs.Prelude.{◌≡◌, List}
use Rattle.acl.specs.declared.user_id.UserId.{UserId}
use Rattle.session_model.specs.Trace.{Entry}
use Rattle.session_model.specs.Tables.{Tables}
use Rattle.session_model.specs.Run.{IsRunFrom}
use Rattle.session_laws.specs.Hidden.{unhidden}
use Rattle.session_laws.specs.Observed.{observations}

-- Two runs from some tables differ only in output that is hidden from a user: it may be other output,
-- more or less of it, and at other times. The user observes the same of both.
abbrev pub HiddenOutputIsUnseen : Type 0
HiddenOutputIsUnseen =
    (user : UserId) (start : Tables) (run other : List Entry) →
    IsRunFrom start run → IsRunFrom start other →
    unhidden user start run ≡ unhidden user start other →
    observations user start run ≡ observations user start other
