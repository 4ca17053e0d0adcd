-- What a line can say: numbers that fit their types, leaders once each.
use Rattle.std.specs.Prelude.{◌≡◌, ◌<◌, ◌^◌, ℕ, true, false, List, [], ◌∷◌, ◌++◌, length, Option, Some, None, Ok, Err}
use Rattle.std.specs.List.{AllByRecursion}
use Rattle.std.specs.Str.{is_utf8}
use Rattle.acl.specs.declared.user_id.UserId.{UserId}
use Rattle.acl.specs.History.{among}
use Rattle.session.specs.refusal.Denied.{Denied}
use Rattle.session.specs.refusal.Denied.TheVariants as denied
use Rattle.session.specs.refusal.Refusal.{Refusal}
use Rattle.session.specs.refusal.Refusal.TheVariants as refusal
use Rattle.hub.specs.kept.Kept.{Kept}
use Rattle.hub.specs.Trails.{Ending, Entry}
use Rattle.line_fields.specs.Events.{Field, User, Number, Serial, Window, Bytes, Text, Title, Value}
use Rattle.line_fields.specs.Events.{row_of, Parts, of_parts}
use Rattle.line_fields.specs.Rows.{fields_in, Each}
use Rattle.line_fields.specs.Sayable.{IsNamed, IsSerial, IsAct, IsVerdict}
use Rattle.line_fields.specs.declared.events.EventKind.{EventKind}
use Rattle.trail_lines.specs.Events.{event_of}
use Rattle.trail_lines.specs.Entries.{Said, line_of, read_line}

-- at most eight leaders, each once
abbrev pub AreLeaders : List UserId → List UserId → Type 0
AreLeaders before [] = Unit {0}
AreLeaders before (u ∷ leaders) =
    IsNamed u × (among before u ≡ false) × (length before < 8)
    × AreLeaders (before ++ u ∷ []) leaders

abbrev pub IsDenied : Denied → Type 0
IsDenied (denied.Window serial number) = IsSerial serial × (number < 2 ^ 8)
IsDenied (denied.Command c) = Unit {0}

abbrev pub IsRefusal : Refusal → Type 0
IsRefusal (refusal.EntryDenied d) = IsNamed d.user × IsDenied d.on × AreLeaders [] d.leaders
IsRefusal (refusal.LockDenied d) = IsSerial d.serial × (d.number < 2 ^ 8) × IsNamed d.holder
IsRefusal (refusal.Line f) = f.place < 2 ^ 64
IsRefusal r = Unit {0}

abbrev pub IsReply : Ending → Type 0
IsReply (Ok f) = (f.taken < 2 ^ 64) × IsSerial f.made × (f.number < 2 ^ 8)
IsReply (Err r) = IsRefusal r

abbrev pub AreBytes : List ℕ → Type 0
AreBytes bytes = AllByRecursion (λ byte. byte < 256) bytes

abbrev pub IsNumberIfAny : Option ℕ → Type 0
IsNumberIfAny None = Unit {0}
IsNumberIfAny (Some number) = number < 2 ^ 8

-- a field that can be said; no bytes are
abbrev pub IsField : (f : Field) → Value f → Type 0
IsField User user = IsNamed user
IsField Number number = number < 2 ^ 16
IsField Serial serial = IsSerial serial
IsField Window window = IsNumberIfAny window
IsField Bytes bytes = bytes ≡ []
IsField Text text = AreBytes text
IsField Title title = AreBytes title × (is_utf8 title ≡ true)

abbrev pub AreFields : (k : EventKind) → Parts k → Type 0
AreFields k v = Each IsField (fields_in (row_of k)) v

abbrev pub IsEvent : Kept → Type 0
IsEvent e = of_parts AreFields (event_of e)

pub record IsEntry (e : Entry) : Type 0 where
  pub event : IsEvent e.event
  pub verdicts : AllByRecursion IsVerdict e.verdicts
  pub acts : AllByRecursion IsAct e.acts
  pub reply : IsReply e.reply

-- a place, a time and an entry that a line can say
abbrev pub IsSayable : Said → Type 0
IsSayable x = (x.0 < 2 ^ 64) × (x.1 < 2 ^ 64) × IsEntry x.2

-- ---- laws

-- what was printed is read
abbrev pub ReadsPrinted : Type 0
ReadsPrinted = (x : Said) → IsSayable x → read_line (line_of x) ≡ Some x

-- a line that is read is the one that its entry prints: each entry has one line
abbrev pub IsSpelledSo : Type 0
IsSpelledSo = (line : List ℕ) (x : Said) → read_line line ≡ Some x → line ≡ line_of x
