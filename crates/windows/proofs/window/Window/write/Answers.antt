use Rattle.windows.proofs.Vocabulary.{terminal_of, writing_in}
use Rattle.windows.proofs.Writings.{stands_written, is_writing}
use Rattle.windows.proofs.window.Window.write.Goals as goal

pub returns-clause-writes : goal.returns-clause-writes
returns-clause-writes c = λ m st. stands_written m c.args.self.now c.write.new.self (writing_in c.args.what)
    (is_writing c.args.what) st
    (c.write.ensures (terminal_of m) st.stands)
