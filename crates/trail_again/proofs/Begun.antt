-- A session that begins with lines that tables take has these tables then, and refuses none of the lines.
use Rattle.trail_again.proofs.Vocabulary.{◌≡◌, ◌∙◌, ℕ, true, false, List, [], ◌∷◌, ◌++◌, ap, sym, subst, map, is_ok}
use Rattle.trail_again.proofs.Vocabulary.{UserId, AreDone, StopsAt, command_of, outcome, Tables, BeginsAsTaken}
use Rattle.trail_again.proofs.Vocabulary.{AreTaken}
use Rattle.program_words.specs.SetupLines.{Line, line_of}
use Rattle.session.specs.Headline.{with_steps}
use Rattle.session.specs.Run.{after, drawn, tables_of}
use Rattle.session.specs.Trace.{Entry, Trace, begun, with_step}

-- a step of a line has the tables of the event's outcome
after_line : (owner : UserId) (line : Line) (t : Tables) (e : Entry) → e.event ≡ command_of owner line
    → after t e ≡ (outcome t (command_of owner line)).tables
after_line owner line t e is = (λ j. drawn (is j) e.effects (outcome t (is j)).tables)

-- the tables after steps of lines are those to which the lines lead
pub tables_after : (owner : UserId) (lines : List Line) (steps : List Entry) (h : Trace) (new : Tables)
    → AreTaken (tables_of h) (map (command_of owner) lines) new → AreDone owner lines steps
    → tables_of (with_steps h steps) ≡ new
tables_after owner [] [] h new takes done = sym takes
tables_after owner [] (e ∷ steps) h new takes done = absurd done
tables_after owner (line ∷ lines) [] h new takes done = absurd done
tables_after owner (line ∷ lines) (e ∷ steps) h new takes done =
    tables_after owner lines steps (with_step h e) new
    (subst (λ (t : Tables). AreTaken t (map (command_of owner) lines) new) (sym (after_line owner line
    (tables_of h) e done.0))
    takes.1) done.2

-- the tables before a line among them, which isn't refused there
rest_taken : (owner : UserId) (past rest : List Line) (steps : List Entry) (h : Trace) (new : Tables)
    → AreTaken (tables_of h) (map (command_of owner) (past ++ rest)) new → AreDone owner past steps
    → AreTaken (tables_of (with_steps h steps)) (map (command_of owner) rest) new
rest_taken owner [] rest [] h new takes done = takes
rest_taken owner [] rest (e ∷ steps) h new takes done = absurd done
rest_taken owner (line ∷ past) rest [] h new takes done = absurd done
rest_taken owner (line ∷ past) rest (e ∷ steps) h new takes done =
    rest_taken owner past rest steps (with_step h e) new
    (subst (λ (t : Tables). AreTaken t (map (command_of owner) (past ++ rest)) new)
    (sym (after_line owner line (tables_of h) e done.0)) takes.1) done.2

pub none_refused : (owner : UserId) (lines : List Line) (h : Trace) (new : Tables) (number : ℕ) (said : List ℕ)
    → AreTaken (tables_of h) (map (command_of owner) lines) new → StopsAt number said h owner lines → ⊥
none_refused owner lines h new number said takes stops =
    let b = stops.refuses in
    let r = b.2 in
    let t : Tables = tables_of (with_steps h b.0) in
    let left = rest_taken owner stops.past (stops.line ∷ stops.rest) b.0 h new
    (subst (λ (ls : List Line). AreTaken (tables_of h) (map
    (command_of owner) ls) new) stops.lines_are takes) b.1.done in
    let wrong : false ≡ true =
    sym (ap is_ok r.reply)
    ∙ ap is_ok (r.keeps.step.reply)
    ∙ (λ j. is_ok (outcome t (r.event j)).reply)
    ∙ left.0 in
    cc

pub begins_as_taken : BeginsAsTaken
begins_as_taken b new takes = (
  λ steps sets. tables_after b.owner (map line_of b.setup.now) steps (begun b.edition b.owner) new takes sets.done,
  λ number said stops. none_refused b.owner (map line_of b.setup.now)
      (begun b.edition b.owner) new number said takes stops,
)
