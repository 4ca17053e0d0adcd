use Rattle.std.proofs.Common.{◌∙◌, ◌++◌, sym, subst, ap}
use Rattle.trail_lines.specs.Entries.{said}
use Rattle.trail_lines.specs.Reading.{HasRead}
use Rattle.trail_log.specs.Joining.{chosen_line, held_with, ms_before, text_before}
use Rattle.trail_log.specs.Logging.{entries_in}
use Rattle.trail_log.specs.Naming.{names_with, nobody}
use Rattle.trail_log.proofs.Logged.{entries_more, names_more}
use Rattle.trail_log.proofs.logging.LogWriter.take.Goals as goal

pub returns-clause-tells : goal.returns-clause-tells
returns-clause-tells c = λ edition owner xs w.
    let t = c.in_ok-said.ensures.tells edition owner (entries_in xs) w.read in
    let next = said c.in_ok-said.said in
    let choice = c.args.choice.now in
    let held = c.args.self.now.held in
    let line = c.in_ok-next.ensures ∙ ap (λ n. chosen_line choice n next) w.named in record {
      next = next;
      is = t.is;
      place_is = t.place_is;
      logged = record {
        read = subst (HasRead c.take.new.self edition owner) (sym (entries_more xs next)) t.read;
        named = c.in_ok-take.ensures ∙ (ap (λ n. names_with n next) w.named ∙ sym (names_more nobody xs next));
      };
      text =
          c.in_ok-ms.ensures.text ∙ ap (λ l. c.args.out.now.items ++ text_before held l) line;
      ms_is = c.in_ok-ms.ensures.ms ∙ ap (ms_before held) line;
      held = c.in_ok-ms.ensures.held ∙ ap (held_with held) line;
    }
