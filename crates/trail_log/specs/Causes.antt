-- Why something was refused, as a log tells it.
use Rattle.std.specs.Prelude.{ℕ, if◌then◌else◌, List, [], ◌∷◌, ◌++◌, Option, Some, None, codes}
use Rattle.std.specs.List.{flat_map}
use Rattle.acl.specs.Names.{name_of}
use Rattle.acl.specs.declared.user_id.UserId.{UserId}
use Rattle.session.specs.refusal.Refusal.{Refusal}
use Rattle.session.specs.refusal.Refusal.TheVariants as refusal
use Rattle.session.specs.refusal.EntryDenied.{EntryDenied as EntryDenial}
use Rattle.session.specs.refusal.Verdict.{Verdict}
use Rattle.session.specs.refusal.Verdict.TheVariants.{Right as right, Lock as lock}
use Rattle.session.specs.Texts.{missing_text, leader_text, text_of}
use Rattle.line_fields.specs.Meaning.{meaning_text}

-- `entry bob -w; leader ann -w`
abbrev pub entry_cause : EntryDenial → List ℕ
entry_cause d =
    codes "entry " ++ (missing_text d.user d.bit ++ flat_map (leader_text d.bit) d.leaders)

-- `locked by eve`
abbrev pub lock_cause : UserId → List ℕ
lock_cause holder = codes "locked by " ++ name_of holder

-- of a reply to a command of this line, or to another event, whose line is empty
abbrev pub cause_text : List ℕ → Refusal → List ℕ
cause_text line (refusal.EntryDenied d) = entry_cause d
cause_text line (refusal.LockDenied d) = lock_cause d.holder
cause_text line r = text_of r ++ meaning_text r line

-- of a check that fails; it names no leaders
abbrev pub check_cause : Verdict → List ℕ
check_cause (right user bit object answer) = codes "entry " ++ missing_text user bit
check_cause (lock user window None) = codes "locked"
check_cause (lock user window (Some holder)) = lock_cause holder

-- the words before a refused command
abbrev pub refused_verb : Refusal → List ℕ
refused_verb (refusal.EntryDenied d) = codes " was denied "
refused_verb (refusal.LockDenied d) = codes " was denied "
refused_verb r = codes " couldn't run "
