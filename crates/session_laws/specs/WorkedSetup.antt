-- A session of four users: own, the owner, and ann, bob and eve. It has three windows, zero, one
-- and two. Each user has a client: those of own and ann show window 0, those of bob and eve show
-- window 2.
use Rattle.std.specs.Prelude.{ℕ, ◌-◌, true, false, List, [], ◌∷◌, ◌++◌, Option, Some, None}
use Rattle.std.specs.Prelude.{Ok, Err, codes, replicate, length}
use Rattle.acl.specs.declared.user_id.UserId.{UserId}
use Rattle.acl.specs.declared.leaders.Edition.{Edition}
use Rattle.acl.specs.declared.act.Act.TheVariants as act
use Rattle.acl.specs.History.{followed_by}
use Rattle.acl.specs.declared.bits.Bit.{Bit}
use Rattle.acl.specs.declared.bits.BitChange.{BitChange}
use Rattle.command_lang.specs.declared.command.Command.{Command as Order}
use Rattle.command_lang.specs.declared.command.Command.TheVariants as command
use Rattle.command_lang.specs.declared.command.Users.TheVariants.{Listed}
use Rattle.command_lang.specs.declared.command.Leader.TheVariants.{Named}
use Rattle.regions.specs.Layouts.{one_region}
use Rattle.session_model.specs.declared.event.Effect.{Effect}
use Rattle.session_model.specs.declared.event.StatusMessage.TheVariants.{Silence}
use Rattle.session_model.specs.Trace.{EventValue, Keys}
use Rattle.session_model.specs.Texts.{text_of}
use Rattle.session_model.specs.Tables.{Tables, Window, Client, fresh}
use Rattle.session_model.specs.Lines.{line_caller}
use Rattle.session_model.specs.Commands.{ruling}
use Rattle.session_model.specs.Outcomes.{Outcome, finished, done}
use Rattle.session_model.specs.Events.{outcome}
use Rattle.session_model.specs.Answering.{commanded}
use Rattle.session_model.specs.Comings.{opens, new_window}

abbrev pub user : List ℕ → UserId
user word = record { name = word ++ replicate (20 - length word) 0 }

abbrev pub own : UserId
own = user (codes "own")

abbrev pub ann : UserId
ann = user (codes "ann")

abbrev pub bob : UserId
bob = user (codes "bob")

abbrev pub eve : UserId
eve = user (codes "eve")

abbrev pub window : ℕ → List ℕ → Window
window n title = record {
  serial = n;
  number = n;
  title = title;
  rows = 24;
  columns = 80;
  keep = 0;
  writing = [];
}

abbrev pub client : ℕ → UserId → ℕ → Client
client n who shows = record {
  serial = n;
  user = who;
  rows = 24;
  columns = 80;
  keys = [];
  delivered = [];
  drawn = None;
  layout = one_region (record { window = Some shows; back = 0 });
  last = Some shows;
  former = Some 0;
  message = Silence;
}

-- the users became known, and then the owner opened the windows
abbrev pub several : Edition → Tables
several edition = record (fresh edition own) {
  acts = followed_by [] (
      act.Known ann ∷ act.Known bob ∷ act.Known eve
      ∷ act.Opened own 0 ∷ act.Opened own 1 ∷ act.Opened own 2
      ∷ act.Attached 0 own ∷ act.Attached 1 ann ∷ act.Attached 2 bob ∷ act.Attached 3 eve ∷ []);
  is_multiuser = true;
  windows = window 0 (codes "zero") ∷ window 1 (codes "one") ∷ window 2 (codes "two") ∷ [];
  clients = client 0 own 0 ∷ client 1 ann 0 ∷ client 2 bob 2 ∷ client 3 eve 2 ∷ [];
  next_window = 3;
  next_client = 4;
}

-- what a Command event does whose line is this command
abbrev pub ordered : Tables → UserId → Option ℕ → Order → Outcome
ordered t who number c = commanded t (ruling t (line_caller t who number) c)

-- the tables after a command of the owner that names no window
abbrev pub after : Tables → Order → Tables
after t c = (ordered t own None c).tables

-- the effects of a client's keys
abbrev pub typed : Tables → ℕ → List ℕ → List Effect
typed t serial bytes = (outcome t (Keys serial bytes)).effects

-- the commands aclchg and aclgrp
abbrev pub changes : List (List ℕ) → List BitChange → List (List ℕ) → Order
changes names bits items = command.Aclchg (Listed names) bits items

abbrev pub takes : Bit → List BitChange
takes b = record { bit = b; value = false } ∷ []

abbrev pub gives : Bit → List BitChange
gives b = record { bit = b; value = true } ∷ []

abbrev pub follows : List ℕ → List ℕ → Order
follows word leader = command.Aclgrp word (Some (Named leader))

-- the tables after an event; and after the owner opened a window
abbrev pub then_comes : Tables → EventValue → Tables
then_comes t event = (outcome t event).tables

abbrev pub with_opened : Tables → Tables
with_opened t = (finished t [] done (opens t own (new_window t 24 80 0 (codes "new")))).tables

-- the text of a step's refusal
abbrev pub why : Outcome → List ℕ
why o = elim o.reply [ Ok d ↦ [] | Err r ↦ text_of r ]

-- what a command lists
abbrev pub listed : Outcome → Option (List ℕ)
listed o = elim o.reply [ Ok d ↦ d.text | Err r ↦ None ]
