-- What is judged of an entry, part by part.
use Rattle.std.specs.Prelude.{ℕ, Bool, true, ◌≡◌, ◌↔◌, List, Option, Some, None, Ok, Err}
use Rattle.std.specs.List.{AllByRecursion}
use Rattle.acl.specs.declared.act.Act.{Act}
use Rattle.acl.specs.declared.act.Object.TheVariants as object
use Rattle.acl.specs.declared.bits.Bit.TheVariants.{Execute}
use Rattle.acl.specs.declared.command_name.CommandName.{CommandName}
use Rattle.acl.specs.declared.leaders.Edition.{Edition}
use Rattle.acl.specs.declared.user_id.UserId.{UserId}
use Rattle.acl.specs.History.{History, followed_by, is_known}
use Rattle.command_lang.specs.declared.command.Command.{Command}
use Rattle.command_lang.specs.Names.{name_of}
use Rattle.command_lang.specs.Relation.{Relates}
use Rattle.session.specs.refusal.Verdict.{Verdict}
use Rattle.session.specs.refusal.Verdict.TheVariants.{Right as right}
use Rattle.hub_trail.specs.declared.kept.Kept.{Kept}
use Rattle.hub_trail.specs.Trails.{Ending, Entry}
use Rattle.hub_trail.specs.Legal.{IsTrue, AsksFirst, AsksForCommand, CarriesFailed, IsDenied, IsLegalEntry, HasItsActs}
use Rattle.hub_trail.specs.Legal.{failed, first_names, has_act_of, IsSaid}
use Rattle.hub_trail.specs.Saying.{says}
use Rattle.hub_trail.specs.Judging.{is_on_there, IsGood}
use Rattle.rights.specs.declared.rights.Rights.{Rights}
use Rattle.rights.specs.Following.{StandsAfter}

-- all verdicts are on objects that are there, and are true
abbrev pub AreTrue : Edition → UserId → History → List Verdict → Type 0
AreTrue edition owner h verdicts =
    AllByRecursion (λ v. (is_on_there h v ≡ true) × IsTrue edition owner h v) verdicts

-- a verdict that asks for x on a command
abbrev pub AsksFor : UserId → CommandName → Verdict → Type 0
AsksFor user name v = (answer : Bool) × (v ≡ right user Execute (object.Command name) answer)

-- ---- the line of a Command

-- a line is no command, or just one
abbrev pub IsReading : List ℕ → Option Command → Type 0
IsReading line None = (c : Command) → Relates line c → ⊥
IsReading line (Some c) = Relates line c × ((d : Command) → Relates line d → d ≡ c)

-- the acts of the users whom a command's first word names
abbrev pub HaveActs : UserId → History → Command → List Act → Type 0
HaveActs owner h c acts =
    AllByRecursion (λ name. has_act_of acts name ≡ true) (first_names owner h c)

abbrev pub HaveActsIfDone : UserId → History → Command → Ending → List Act → Type 0
HaveActsIfDone owner h c (Ok finished) acts = HaveActs owner h c acts
HaveActsIfDone owner h c (Err r) acts = Unit {0}

-- the command says each act on users and rights
abbrev pub AreSaid : UserId → History → Command → List Act → Type 0
AreSaid owner h c acts = AllByRecursion (λ a. says owner h c a ≡ true) acts

abbrev pub AreSaidIfDone : UserId → History → Command → Ending → List Act → Type 0
AreSaidIfDone owner h c (Ok finished) acts = AreSaid owner h c acts
AreSaidIfDone owner h c (Err r) acts = Unit {0}

-- of a known user, the first verdict asks for x on the command
abbrev pub AsksIfKnown : UserId → History → UserId → Command → List Verdict → Type 0
AsksIfKnown owner h user c verdicts =
    is_known owner h user ≡ true → AsksFirst user (name_of c) verdicts

-- what an entry of a user's command must have
abbrev pub FitsCommand : UserId → History → UserId → Command → Entry → Type 0
FitsCommand owner h user c e =
    AsksIfKnown owner h user c e.verdicts × HaveActsIfDone owner h c e.reply e.acts
    × AreSaidIfDone owner h c e.reply e.acts

-- what an entry of an event with a line must have; of other events, the acts of the event
abbrev pub FitsLine : UserId → History → Kept → Entry → Type 0
FitsLine owner h event e =
    AsksForCommand owner h event e.verdicts × HasItsActs owner h event e.reply e.acts
    × IsSaid owner h event e.reply e.acts

-- ---- an entry

-- a denial carries the verdict that failed, and the event was denied if it had to be
abbrev pub IsAnswered : Kept → Entry → Type 0
IsAnswered event e =
    CarriesFailed (failed e.verdicts) e.reply × IsDenied event (failed e.verdicts) e.reply

-- tables can judge the verdicts of the entry, and the entry is legal
abbrev pub IsJudged : Edition → UserId → History → Entry → Type 0
IsJudged edition owner h e =
    AllByRecursion (λ v. is_on_there h v ≡ true) e.verdicts × IsLegalEntry edition owner h e

-- the answer is whether the entry is good; if it is, the rights stands after its acts
abbrev pub Takes : Bool → Rights → Edition → UserId → History → Entry → Type 0
Takes good new edition owner h e =
    ((good ≡ true) ↔ IsGood edition owner h e)
    × (good ≡ true → StandsAfter new edition owner (followed_by h e.acts))
