-- When a user got a bit, and lost it.
use Rattle.std.specs.Prelude.{ℕ, Bool, true, false, ◌&&◌, if◌then◌else◌, List, [], ◌∷◌, ◌++◌, codes, decimal}
use Rattle.std.specs.Prelude.{Option, Some, None, option_map}
use Rattle.std.specs.Str.{bytes_eq}
use Rattle.acl.specs.declared.act.Object.TheVariants.{Window}
use Rattle.acl.specs.declared.bits.Bit.{Bit}
use Rattle.acl.specs.declared.leaders.Edition.{Edition}
use Rattle.acl.specs.declared.user_id.UserId.{UserId}
use Rattle.acl.specs.History.{History, may, there}
use Rattle.line_fields.specs.Dates.{when_text}
use Rattle.trail_confined.specs.Reasons.{by_text, yes_text}
use Rattle.trail_confined.specs.declared.why.Question.{Question}
use Rattle.trail_lines.specs.Entries.{Said}
use Rattle.trail_log.specs.declared.titles.Titled.{Titled}
use Rattle.trail_log.specs.Choosing.{giver}
use Rattle.trail_log.specs.Naming.{Names, names_with, nobody}
use Rattle.trail_rights.specs.Marks.{acts_in, marked_after}
use Rattle.mux_trail.specs.declared.history.History.{History as Kept}
use Rattle.mux_trail.specs.declared.history.HistoryChange.{HistoryChange}
use Rattle.mux_trail.specs.declared.words.RightsAsked.{RightsAsked}
use Rattle.mux_trail.specs.declared.words.RightsAsked.TheVariants as asked

-- ---- which bit is asked about

-- the window that was given the title last; the title that was given last stands at the end
abbrev pub window_titled_or : Option ℕ → List ℕ → List Titled → Option ℕ
window_titled_or before title [] = before
window_titled_or before title (t ∷ titles) =
    window_titled_or (if bytes_eq t.title title then Some t.window else before) title titles

abbrev pub window_titled : List ℕ → List Titled → Option ℕ
window_titled title titles = window_titled_or None title titles

abbrev pub question_about : UserId → Bit → ℕ → Question
question_about user bit w = record { user = user; bit = bit; object = Window w }

-- the question about one bit, if one is asked about, when windows have these titles
abbrev pub question_in : RightsAsked → List Titled → Option Question
question_in (asked.Why q) titles = Some q
question_in (asked.WhyTitled user bit title) titles =
    option_map (question_about user bit) (window_titled title.now titles)
question_in other titles = None

-- whether the user has the bit on an object that is there
abbrev pub has_bit : Edition → UserId → History → Question → Bool
has_bit edition owner h q = there h q.object && may edition owner h q.user q.bit q.object

abbrev pub has_if_asked : Edition → UserId → History → Option Question → Bool
has_if_asked edition owner h None = false
has_if_asked edition owner h (Some q) = has_bit edition owner h q

abbrev pub has_asked : RightsAsked → Edition → UserId → History → List Titled → Bool
has_asked asked edition owner h titles = has_if_asked edition owner h (question_in asked titles)

-- ---- its changes

-- whether the user has the bit, and the changes so far
abbrev pub Noted : Type 0
Noted = Bool × List HistoryChange

abbrev pub noted : Kept → Noted
noted h = (h.has, h.changes.items)

abbrev pub change_by : Bool → Option UserId → Said → HistoryChange
change_by has by x = record { has = has; place = x.0; ms = x.1; by = by }

-- an entry that leaves the bit as it was is no change
abbrev pub with_change : (has had : Bool) → HistoryChange → List HistoryChange → List HistoryChange
with_change true true c changes = changes
with_change false false c changes = changes
with_change has had c changes = changes ++ c ∷ []

abbrev pub changed : Bool → Option UserId → Said → Noted → Noted
changed has by x n = (has, with_change has n.0 (change_by has by x) n.1)

-- what clients and windows are called after these entries, and the changes of the bit that is asked about
pub data IsNoted (asked : RightsAsked) (edition : Edition) (owner : UserId) : List Said → Names → Noted → Type 0 where
  none : IsNoted asked edition owner [] nobody (false, [])
  more : (said : List Said) (x : Said) (names : Names) (n : Noted) → IsNoted asked edition owner said names n
      → IsNoted asked edition owner (said ++ x ∷ []) (names_with names x)
      (changed (has_asked asked edition owner (acts_in (marked_after [] (said ++ x ∷ []))) (names_with names x).1)
      (giver names.0 x.2.event) x n)

-- ---- how they are told

-- `yes from entry 430 at 2025-11-24T16:28:17.811Z by own`
abbrev pub change_text : HistoryChange → List ℕ
change_text c =
    yes_text c.has ++ (codes " from entry " ++ (decimal c.place ++ (when_text (codes " at ") c.ms
    ++ by_text c.by (codes "\n"))))
