-- Which events name a user.
use Rattle.std.specs.Prelude.{◌≡◌}
use Rattle.acl.specs.declared.user_id.UserId.{UserId}
use Rattle.session.specs.Trace.{EventValue, Attach, Command, Open}

-- an event that names a user names this one
abbrev pub IsOf : UserId → EventValue → Type 0
IsOf user (Attach u rows columns) = u ≡ user
IsOf user (Command u window line) = u ≡ user
IsOf user (Open u rows columns keep title) = u ≡ user
IsOf user other = Unit {0}

-- it names none
abbrev pub NamesNobody : EventValue → Type 0
NamesNobody (Attach u rows columns) = ⊥
NamesNobody (Command u window line) = ⊥
NamesNobody (Open u rows columns keep title) = ⊥
NamesNobody other = Unit {0}
