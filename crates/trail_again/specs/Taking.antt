-- A session takes commands, one after another.
use Rattle.std.specs.Prelude.{◌≡◌, true, List, [], ◌∷◌, IsOk}
use Rattle.acl.specs.declared.leaders.Edition.{Edition}
use Rattle.acl.specs.declared.user_id.UserId.{UserId}
use Rattle.acl.specs.History.{History}
use Rattle.session.specs.Events.{outcome}
use Rattle.session.specs.Tables.{Tables, fresh}
use Rattle.session.specs.Trace.{EventValue}

-- none of these events is refused, and these are the tables after the last
abbrev pub AreTaken : Tables → List EventValue → Tables → Type 0
AreTaken t [] new = new ≡ t
AreTaken t (e ∷ events) new = IsOk (outcome t e).reply × AreTaken (outcome t e).tables events new

-- a multiuser session after these acts, which nobody has joined and in which no window was opened
abbrev pub session_after : Edition → UserId → History → Tables
session_after edition owner h = record (fresh edition owner) { acts = h; is_multiuser = true }
