-- Worked rows on which output is hidden from bob, whose client shows window 2, and from own, who
-- opened all windows.
use Rattle.std.specs.Prelude.{◌≡◌, ℕ, List, [], ◌∷◌, codes}
use Rattle.acl.specs.declared.leaders.Edition.TheVariants.{Second}
use Rattle.acl.specs.declared.bits.Bit.TheVariants.{Read}
use Rattle.session_model.specs.Trace.{EventValue, Keys, Output, Draw, Entry}
use Rattle.session_model.specs.Tables.{Tables}
use Rattle.session_model.specs.Run.{tables_from}
use Rattle.session_model.specs.Outcomes.{Outcome}
use Rattle.session_model.specs.Events.{outcome}
use Rattle.session_laws.specs.Hidden.{unhidden}
use Rattle.session_laws.specs.WorkedSetup.{own, bob, several, after, changes, takes}

-- events in their order, as the steps of a run; what draws deliver doesn't matter here
abbrev pub entry : Tables → EventValue → Entry
entry t event =
    let o : Outcome = outcome t event in record {
      event = event;
      reply = o.reply;
      acts = o.acts;
      verdicts = o.verdicts;
      effects = o.effects;
    }

abbrev pub run_behind : Tables → List Entry → List EventValue → List Entry
run_behind start past [] = past
run_behind start past (event ∷ events) =
    run_behind start (entry (tables_from start past) event ∷ past) events

abbrev pub run_of : List EventValue → List Entry
run_of events = run_behind (several Second) [] events

abbrev pub prints : ℕ → List ℕ → EventValue
prints window bytes = Output window bytes

-- ---- the rows

-- output before a draw is shown by it; output after the last draw isn't, and neither is output of a
-- window that bob doesn't see
abbrev pub printed : List EventValue
printed =
    prints 2 (codes "a") ∷ prints 0 (codes "b") ∷ Draw 2 ∷ prints 2 (codes "c") ∷ Draw 1 ∷ []

abbrev pub ShownBefore : Type 0
ShownBefore =
    unhidden bob (several Second) (run_of printed) ≡ Draw 1 ∷ Draw 2 ∷ prints 2 (codes "a") ∷ []

-- nothing is hidden from own, who opened the windows
abbrev pub NoneOfOwn : Type 0
NoneOfOwn =
    unhidden own (several Second) (run_of printed)
    ≡ Draw 1 ∷ prints 2 (codes "c") ∷ Draw 2 ∷ prints 0 (codes "b") ∷ prints 2 (codes "a") ∷ []

-- bob: C-a 0
abbrev pub turned : EventValue
turned = Keys 2 (0x01 ∷ 0x30 ∷ [])

abbrev pub TurnedBefore : Type 0
TurnedBefore =
    unhidden bob (several Second) (run_of (prints 2 (codes "a") ∷ turned ∷ Draw 2 ∷ []))
    ≡ Draw 2 ∷ turned ∷ []

abbrev pub TurnedBehind : Type 0
TurnedBehind =
    unhidden bob (several Second) (run_of (prints 2 (codes "a") ∷ Draw 2 ∷ turned ∷ []))
    ≡ turned ∷ Draw 2 ∷ prints 2 (codes "a") ∷ []

-- own: aclchg bob -r 2; nothing of window 2 is shown from then on
abbrev pub unread : Tables
unread = after (several Second) (changes (codes "bob" ∷ []) (takes Read) (codes "2" ∷ []))

abbrev pub NeverRead : Type 0
NeverRead =
    unhidden bob unread (run_behind unread [] (prints 2 (codes "a") ∷ Draw 2 ∷ [])) ≡ Draw 2 ∷ []
