use Rattle.std.proofs.Common.{ℕ, subst}
use Rattle.std.proofs.lemmas.Result.{IfOk-weaker}
use Rattle.trail_files.specs.Finishing.{Finishes}
use Rattle.trail_files.proofs.Counted.{counted}
use Rattle.trail_files.proofs.check.check_lines.Goals as goal

pub returns : goal.returns
returns g c = λ edition owner fresh.
    let read = c.in_ok-halt.ensures edition owner fresh in
    IfOk-weaker c.finish_of.result _ _
    (λ f ends. record {
      halt_is = c.in_ok-halt.halt;
      line = c.read_entries.new.line.items;
      rest = g.R.Read.remaining c.read_entries.new.reader;
      read = read;
      finishes = counted f c.in_ok-halt.halt c.read_entries.new.audit c.read_entries.new.line.items edition owner
          read.said (g.R.Read.remaining c.read_entries.new.reader) read.tells
          (subst (λ (n : ℕ). Finishes f c.in_ok-halt.halt n c.read_entries.new.line.items
          (g.R.Read.remaining c.read_entries.new.reader)) c.count.ensures ends);
    }) c.finish_of.ensures
