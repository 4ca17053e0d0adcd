use Rattle.windows.proofs.Vocabulary.{row_of, rows_match, WindowStands, serial}
use Rattle.windows.proofs.Answering.{own, same}
use Rattle.windows.proofs.Nearest.{seen}
use Rattle.windows.proofs.windows.Windows.get.Goals as goal

pub returns-clause-finds : goal.returns-clause-finds
returns-clause-finds c = λ rows st.
    seen (λ ws. row_of own ws c.args.serial) c.args.self.now c.self.inside.rows _ _ c.get.ensures c.self.view_is
    (rows_match WindowStands serial own same rows c.args.self.now c.args.serial st)
