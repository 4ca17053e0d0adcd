use Rattle.std.proofs.Common.{ℕ, List, Option, Some, None, refl, subst}
use Rattle.trail_lines.specs.Lines.{OfKnown}
use Rattle.trail_files.specs.Showing.{Shows}
use Rattle.trail_files.specs.declared.show.LineFormat.{LineFormat}
use Rattle.trail_files.specs.declared.show.LineKind.{LineKind}
use Rattle.trail_files.specs.declared.show.LineKind.TheVariants as kind
use Rattle.trail_files.proofs.Behind.{ShowsOn, shown_on, shown_to}
use Rattle.trail_files.proofs.Shown.{shown_all, shown_more, shown_none, shows_as}
use Rattle.trail_files.proofs.show.show_lines.Goals as goal

-- what the next line was, and what was written of it
abbrev Came : LineFormat → Option (List ℕ) → Option (List ℕ) → Option (List ℕ) → Option (List ℕ) → LineKind → Type 0
Came form old new out more k = OfKnown old new (Shows form out more k)

first : (a : Option (List ℕ)) → OfKnown a a (ShowsOn 2)
first None = tt
first (Some bytes) = λ n stopped shows. (n, shows)

pub lines-init : goal.lines-init
lines-init g c = record {
  on = first (g.R.Read.remaining c.args.reader.now);
  shown = shown_none c.args.form (g.R.Read.remaining c.args.reader.now) (g.W.Write.contents c.args.output.now);
}

pub returns-in-Last : goal.returns-in-Last
returns-in-Last g c =
    let old = g.R.Read.remaining c.lines.reader in
    let new = g.R.Read.remaining c.show_next.new.reader in
    let out = g.W.Write.contents c.lines.output in
    let more = g.W.Write.contents c.show_next.new.output in
    let came = subst (Came c.args.form old new out more) c.in-Last.is c.in_ok-show_next.ensures in record {
      stops = shown_to c.lines.number kind.Last None (g.R.Read.remaining c.args.reader.now) old new
          c.lines.invariant.on (shows_as c.args.form kind.Last old new out more came) refl;
      text = shown_all c.args.form kind.Last (g.R.Read.remaining c.args.reader.now) old new
          (g.W.Write.contents c.args.output.now) out more (λ text. refl) c.lines.invariant.shown came;
    }

pub returns-in-Stray : goal.returns-in-Stray
returns-in-Stray g c =
    let old = g.R.Read.remaining c.lines.reader in
    let new = g.R.Read.remaining c.show_next.new.reader in
    let out = g.W.Write.contents c.lines.output in
    let more = g.W.Write.contents c.show_next.new.output in
    let came = subst (Came c.args.form old new out more) c.in-Stray.is c.in_ok-show_next.ensures in record {
      stops = shown_to c.lines.number kind.Stray (Some c.lines.number) (g.R.Read.remaining c.args.reader.now) old new
          c.lines.invariant.on (shows_as c.args.form kind.Stray old new out more came) refl;
      text = shown_all c.args.form kind.Stray (g.R.Read.remaining c.args.reader.now) old new
          (g.W.Write.contents c.args.output.now) out more (λ text. refl) c.lines.invariant.shown came;
    }

pub lines-preserved : goal.lines-preserved
lines-preserved g c =
    let old = g.R.Read.remaining c.lines.reader in
    let new = g.R.Read.remaining c.show_next.new.reader in
    let out = g.W.Write.contents c.lines.output in
    let more = g.W.Write.contents c.show_next.new.output in
    let came = subst (Came c.args.form old new out more) c.in-Entry.is c.in_ok-show_next.ensures in record {
      on = shown_on c.lines.number (g.R.Read.remaining c.args.reader.now) old new c.lines.invariant.on
          (shows_as c.args.form kind.Entry old new out more came);
      shown = shown_more c.args.form (g.R.Read.remaining c.args.reader.now) old new
          (g.W.Write.contents c.args.output.now) out more c.lines.invariant.shown came;
    }
