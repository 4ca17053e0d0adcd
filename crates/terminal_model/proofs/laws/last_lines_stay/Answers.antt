use Rattle.terminal_model.proofs.Vocabulary.{[], sym, starting, ready, reads, lines_of}
use Rattle.terminal_model.proofs.Leaving.{reads_push, keeps_on, writing_keeps, writing_keep, take_none}
use Rattle.terminal_model.proofs.Sound.{IsSound-starting}
use Rattle.terminal_model.proofs.Terminals.{IsTerminal-ready}
use Rattle.terminal_model.proofs.laws.last_lines_stay.Goals as goal

pub returns : goal.returns
returns c = record {
  reading = λ t bytes lines k h. keeps_on t.screen (reads t bytes).terminal.screen lines (lines_of (reads t bytes).acts)
      h (reads_push t bytes k);
  writing = writing_keeps;
  fresh = λ rows columns keep ws size are.
      writing_keeps (ready (starting rows columns keep)) ws [] are
      (IsTerminal-ready (starting rows columns keep) (IsSound-starting rows columns keep size))
      (sym (take_none keep));
  room = writing_keep;
}
