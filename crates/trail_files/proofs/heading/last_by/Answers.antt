use Rattle.trail_files.proofs.Behind.{ended, gone_on}
use Rattle.std.proofs.Common.{◌≡◌, ℕ, Option, None, rules, subst}
use Rattle.trail_lines.specs.Lines.{OfKnown}
use Rattle.trail_files.specs.Beginning.{ComesBy}
use Rattle.trail_files.proofs.heading.last_by.Goals as goal

pub returns-in_default : goal.returns-in_default
returns-in_default g c =
    let none : c.in_ok-place.field-0 ≡ None = search rules in
    ended c.args.time c.entries.last (g.R.Read.remaining c.args.reader.now) (g.R.Read.remaining c.entries.reader)
    (g.R.Read.remaining c.next_by.new.reader) c.entries.invariant
    (subst (λ (place : Option ℕ). OfKnown (g.R.Read.remaining c.entries.reader)
    (g.R.Read.remaining c.next_by.new.reader) (ComesBy c.args.time place)) none c.in_ok-place.ensures)

pub entries-preserved : goal.entries-preserved
entries-preserved g c =
    gone_on c.args.time c.in-Some.place c.entries.last (g.R.Read.remaining c.args.reader.now)
    (g.R.Read.remaining c.entries.reader) (g.R.Read.remaining c.next_by.new.reader) c.entries.invariant
    (subst (λ (place : Option ℕ). OfKnown (g.R.Read.remaining c.entries.reader)
    (g.R.Read.remaining c.next_by.new.reader) (ComesBy c.args.time place)) c.in-Some.is c.in_ok-place.ensures)
