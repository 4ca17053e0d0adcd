use Rattle.std.proofs.Common.{refl}
use Rattle.server_system.proofs.users_file.UsersFile.look.Goals as goal

pub returns-in-Ok-None-clause-ok : goal.returns-in-Ok-None-clause-ok
returns-in-Ok-None-clause-ok g c = (rw c.in-Ok-None.field-0-is at c.in-Ok-None.ensures.0) refl

pub returns-in-Ok-Some-clause-ok : goal.returns-in-Ok-Some-clause-ok
returns-in-Ok-Some-clause-ok g c = (rw c.in-Ok-Some.field-0-is at c.in-Ok-Some.ensures.0) c.if-this.true
