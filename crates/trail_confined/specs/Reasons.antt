-- What is printed of the acts that decide.
use Rattle.std.specs.Prelude.{ℕ, Bool, true, ◌==◌, if◌then◌else◌, List, [], ◌∷◌, ◌++◌, codes, decimal}
use Rattle.std.specs.Prelude.{Option, Some, None}
use Rattle.std.specs.List.{flat_map, list_any}
use Rattle.acl.specs.declared.act.Act.{Act}
use Rattle.acl.specs.declared.act.Object.{Object}
use Rattle.acl.specs.declared.act.Object.TheVariants.{Window, Command}
use Rattle.acl.specs.declared.leaders.Edition.{Edition}
use Rattle.acl.specs.declared.user_id.UserId.{UserId}
use Rattle.acl.specs.History.{History, may, there}
use Rattle.acl.specs.Names.{name_of}
use Rattle.acl.specs.Same.{same_user}
use Rattle.line_fields.specs.Acts.{act_text}
use Rattle.trail_rights.specs.declared.decider.Decider.{Decider}
use Rattle.trail_rights.specs.declared.acts.Mark.{Mark}
use Rattle.trail_confined.specs.declared.why.Question.{Question}
use Rattle.line_fields.specs.Dates.{when_text}

-- ` by own`, if a user gave an event, and what ends it
abbrev pub by_text : Option UserId → List ℕ → List ℕ
by_text None end = end
by_text (Some giver) end = codes " by " ++ (name_of giver ++ end)

-- `entry 4 at 2025-11-24T16:00:00.548Z by own: `
abbrev pub mark_text : Mark → List ℕ
mark_text m =
    codes "entry " ++ (decimal m.place ++ (when_text (codes " at ") m.ms ++ by_text m.giver (codes ": ")))

-- the act that was found to decide for a user, after the entry that has it
abbrev pub cause_text : Option (Mark × Act) → List ℕ
cause_text None = codes "no act decides\n"
cause_text (Some p) = mark_text p.0 ++ (act_text p.1 ++ 0x0A ∷ [])

abbrev pub found_text : UserId → Option (Mark × Act) → List ℕ
found_text user found = name_of user ++ (codes ": " ++ cause_text found)

abbrev pub decider_text : Decider → List ℕ
decider_text d = found_text d.user d.found

abbrev pub yes_text : Bool → List ℕ
yes_text is = if is then codes "yes" else codes "no"

abbrev pub is_owner_text : UserId → List ℕ
is_owner_text user = name_of user ++ codes ": the owner\n"

abbrev pub owner_text : UserId → UserId → List ℕ
owner_text owner user = if same_user user owner then is_owner_text user else []

-- whether a user has a bit, and what decides it; None if the object isn't there
abbrev pub answer_text : UserId → UserId → Option Bool → List Decider → List ℕ
answer_text owner user None deciders = codes "no: the window isn't open\n"
answer_text owner user (Some has_bit) deciders =
    yes_text has_bit ++ (codes "\n" ++ (owner_text owner user ++ flat_map decider_text deciders))

-- whether the user has the bit after these acts, if the object is there
abbrev pub answer_of : Edition → UserId → History → Question → Option Bool
answer_of edition owner h q =
    if there h q.object then Some (may edition owner h q.user q.bit q.object) else None

abbrev pub reasons_text : Edition → UserId → History → Question → List Decider → List ℕ
reasons_text edition owner h q deciders =
    answer_text owner q.user (answer_of edition owner h q) deciders

-- ---- as the code has it

abbrev pub is_listed : List ℕ → ℕ → Bool
is_listed windows w = list_any (λ x. x == w) windows

abbrev pub is_there : List ℕ → Object → Bool
is_there windows (Window w) = is_listed windows w
is_there windows (Command c) = true
