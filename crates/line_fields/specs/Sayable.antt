-- What words of acts and verdicts can say: users by their names, serials that fit their type.
use Rattle.std.specs.Prelude.{◌≡◌, ◌<◌, ◌^◌, ℕ, Option, Some, None}
use Rattle.acl.specs.declared.act.Act.{Act}
use Rattle.acl.specs.declared.act.Object.{Object}
use Rattle.acl.specs.declared.act.Object.TheVariants as object
use Rattle.acl.specs.declared.user_id.UserId.{UserId}
use Rattle.acl.specs.Names.{name_of, named_by}
use Rattle.session_model.specs.declared.refusal.Verdict.{Verdict}
use Rattle.session_model.specs.declared.refusal.Verdict.TheVariants as verdict
use Rattle.line_fields.specs.Acts.{PartKind, User, Leader, Serial, Change, Target, Mode, Preset, Value}
use Rattle.line_fields.specs.Acts.{row_of, Parts, of_parts}
use Rattle.line_fields.specs.Rows.{Each, fields_in}
use Rattle.line_fields.specs.declared.acts.ActKind.{ActKind}

-- a user whose name names them
abbrev pub IsNamed : UserId → Type 0
IsNamed user = named_by (name_of user) ≡ Some user

abbrev pub IsNamedIfAny : Option UserId → Type 0
IsNamedIfAny None = Unit {0}
IsNamedIfAny (Some user) = IsNamed user

abbrev pub IsSerial : ℕ → Type 0
IsSerial n = n < 2 ^ 32

abbrev pub IsObject : Object → Type 0
IsObject (object.Window w) = IsSerial w
IsObject (object.Command c) = Unit {0}

-- a part of an act that can be said
abbrev pub IsPartOfAct : (p : PartKind) → Value p → Type 0
IsPartOfAct User user = IsNamed user
IsPartOfAct Leader user = IsNamedIfAny user
IsPartOfAct Serial n = IsSerial n
IsPartOfAct Change change = Unit {0}
IsPartOfAct Target o = IsObject o
IsPartOfAct Mode m = Unit {0}
IsPartOfAct Preset p = Unit {0}

abbrev pub AreParts : (k : ActKind) → Parts k → Type 0
AreParts k v = Each IsPartOfAct (fields_in (row_of k)) v

abbrev pub IsAct : Act → Type 0
IsAct a = of_parts AreParts a

abbrev pub IsVerdict : Verdict → Type 0
IsVerdict (verdict.Right u b o answer) = IsNamed u × IsObject o
IsVerdict (verdict.Lock u w held) = IsNamed u × IsSerial w × IsNamedIfAny held
