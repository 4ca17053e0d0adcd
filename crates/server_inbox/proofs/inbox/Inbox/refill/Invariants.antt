use Rattle.std.proofs.Common.{◌≡◌, ◌≤◌, ℕ, List}
use Rattle.attach_proto.specs.declared.message.Message.{Message}
use Rattle.server_inbox.specs.Asking.{Lies, refilled}
use Rattle.server_inbox.proofs.inbox.Inbox.refill.Given as goal

pub record Refilled (lies same rest on : Type 0) : Type 0 where
  pub lay : lies
  pub as_before : same
  pub same_rest : rest
  pub further : on

abbrev pub invariant-pieces : goal.invariant-pieces
invariant-pieces l = Refilled
    ((taken : List Message) (stream : List ℕ) → Lies l.initial.self l.initial.reader taken stream
    → Lies l.self l.reader taken stream)
    (l.self ≡ refilled l.initial.self l.self)
    (l.self.rest ≡ l.initial.self.rest)
    (l.counter ≤ l.self.seen)
