use Rattle.server_users.proofs.Vocabulary.{length, entries_of}
use Rattle.server_users.proofs.Known.{HasSeen}
use Rattle.server_users.proofs.Lines.{HaveRead}
use Rattle.server_users.proofs.users.Users.read.Given as goal

abbrev pub invariant-lines : goal.invariant-lines
invariant-lines l = HaveRead (entries_of l.list.items) l.file l.rest × HasSeen l.seen.keys l.list.items

abbrev pub decreases-lines : goal.decreases-lines
decreases-lines l = length l.rest
