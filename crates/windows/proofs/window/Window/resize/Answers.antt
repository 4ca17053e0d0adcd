use Rattle.windows.proofs.Vocabulary.{refl, terminal_of, Size, written_to}
use Rattle.windows.proofs.Writings.{stands_written}
use Rattle.windows.proofs.window.Window.resize.Goals as goal

pub returns-in-Ok-clause-answer : goal.returns-in-Ok-clause-answer
returns-in-Ok-clause-answer c = λ m st. (
  written_to (Size c.args.rows c.args.columns) m,
  refl,
  stands_written m c.args.self.now c.resized.new.self (Size c.args.rows c.args.columns) c.in-Ok.ensures.size st
      (c.in-Ok.ensures.ok (terminal_of m) st.stands),
)
